-- `normal::prepare_ok::on_prepare_ok` meets its contract. Assumes nothing.
use mathlib.Core.Bool.{not}
use Rattle.normal.proofs.PrepareOkLaws.{after-commit, ready, sender-small, unheard, weighed}
use Rattle.normal.specs.PrepareOk.{counted, by_count}
use Rattle.config.specs.Replicas.{with_member}
use Rattle.book.specs.Memory.{money}
use Rattle.state.specs.declared.Returned.{Returned}
use mathlib.Core.Path.{ap, ◌∙◌}
use native.Mathlib.Omega.{arith}
use Rattle.config.proofs.SetupLaws.{sized}
use Prim.Native.Nat.{ℕ}
use lib.ListN.{length, get_or, set}
use Rattle.normal.proofs.prepare_ok.on_prepare_ok.Goals as goal

pub returns-then-not-hears : goal.returns-then-not-hears
returns-then-not-hears c = let a = c.args in unheard a.s a.v a.op a.from a.log.now _ a.acks.now a.reps.now _ c.hears.ensures _ (ap not c.if-not-hears.true) c.done.ensures

pub overflow_sub-op : goal.overflow_sub-op
overflow_sub-op c = let a = c.args in omega (arith, after-commit a.s a.v a.op c.hears.result c.hears.ensures (ap not c.if-not-hears.false))

pub bounds-acks-i : goal.bounds-acks-i
bounds-acks-i c = let a = c.args in omega (arith, c.ack_place-i.ensures, c.requires.1.0, c.requires.1.1.1, after-commit a.s a.v a.op c.hears.result c.hears.ensures (ap not c.if-not-hears.false))

pub weigh-requires : goal.weigh-requires
weigh-requires c = let a = c.args in (sender-small a.s _ a.from c.requires.0 c.requires.1.1.0, (after-commit a.s a.v a.op c.hears.result c.hears.ensures (ap not c.if-not-hears.false), omega (arith, (sized a.s.setup c.requires.0.sized).seven)))

pub insert-requires : goal.insert-requires
insert-requires c = let a = c.args in sender-small a.s _ a.from c.requires.0 c.requires.1.1.0

pub bounds-acks-i-in-Note : goal.bounds-acks-i-in-Note
bounds-acks-i-in-Note c = let a = c.args in omega (arith, c.ack_place-i.ensures, c.requires.1.0, c.requires.1.1.1, after-commit a.s a.v a.op c.hears.result c.hears.ensures (ap not c.if-not-hears.false))

pub commit_with_replies-requires : goal.commit_with_replies-requires
commit_with_replies-requires c = let a = c.args in let q = ready a.s a.op (get_or a.acks.now c.ack_place-i.result 0) a.from (length a.reps.now) _ c.weigh.ensures.exact c.in-Commit.is in (c.requires.0, (after-commit a.s a.v a.op c.hears.result c.hears.ensures (ap not c.if-not-hears.false), (q.0, (c.requires.1.0, q.1))))

pub returns-in-Nothing : goal.returns-in-Nothing
unfolding by_count
returns-in-Nothing c = let a = c.args in weighed a.s a.v a.op a.from a.log.now _ a.acks.now a.reps.now _ c.hears.ensures _ _ _ _ c.ack_place-i.ensures (ap not c.if-not-hears.false) c.weigh.ensures.exact c.in-Nothing.is (ap (λ (x : Returned). counted x (money a.results.now a.totals.now) a.acks.now a.reps.now) c.done-in-Nothing.ensures)

pub returns-in-Note : goal.returns-in-Note
unfolding by_count
returns-in-Note c = let a = c.args in let k = c.ack_place-i.ensures in weighed a.s a.v a.op a.from a.log.now _ a.acks.now a.reps.now _ c.hears.ensures _ _ _ _ k (ap not c.if-not-hears.false) c.weigh.ensures.exact c.in-Note.is (λ i. counted (c.done-in-Note.ensures i) (money a.results.now a.totals.now) (set a.acks.now (k i) ((c.insert.ensures ∙ ap (λ (j : ℕ). with_member (get_or a.acks.now j 0) a.from) k) i)) a.reps.now)

pub returns-in-Refuse : goal.returns-in-Refuse
unfolding by_count
returns-in-Refuse c = let a = c.args in weighed a.s a.v a.op a.from a.log.now _ a.acks.now a.reps.now _ c.hears.ensures _ _ _ _ c.ack_place-i.ensures (ap not c.if-not-hears.false) c.weigh.ensures.exact c.in-Refuse.is (ap (λ (x : Returned). counted x (money a.results.now a.totals.now) a.acks.now a.reps.now) c.refused.ensures)

pub returns-in-Commit : goal.returns-in-Commit
unfolding by_count
returns-in-Commit c = let a = c.args in weighed a.s a.v a.op a.from a.log.now _ a.acks.now a.reps.now _ c.hears.ensures _ _ _ _ c.ack_place-i.ensures (ap not c.if-not-hears.false) c.weigh.ensures.exact c.in-Commit.is c.commit_with_replies.ensures
