-- `replica::call::take` meets its contract. Assumes nothing.
use mathlib.Core.Path.{sym, ap, ◌∙◌}
use native.Mathlib.Omega.{arith}
use Rattle.handlers.proofs.Stays.{message-stays}
use Rattle.book.specs.Memory.{memory}
use Rattle.replica.specs.Calls.{latest_found, latest_for}
use Rattle.replica.specs.Lent.{lent}
use Rattle.replica.proofs.CallLaws.{stays-follow, followed-is, taken}
use Rattle.replica.proofs.KnownLaws.{found-his, appends}
use Rattle.replica.proofs.call.take.Goals as goal

pub follow_found-requires : goal.follow_found-requires
follow_found-requires c = let a = c.args in let pre = c.requires in let done = c.on_message-a in let latest = c.latest_found-latest.result in let core = memory a.log.now a.results.now a.totals.now a.acks.now a.stored.now a.out.now a.reps.now in let frame = c.shared_slice_known-1 in let his = found-his a.m a.s.setup.room a.table.now _ (sym c.found_for-found.ensures ∙ c.in-Some.is) in (stays-follow a.s _ done.result _ _ pre.0.sound.sized (message-stays a.m a.s latest a.frame.now core pre.0 pre.1.0) done.ensures pre.1.1, λ _. appends a.m a.s latest a.frame.now core pre.0 (λ i. omega (arith, frame.given i)) pre.1.0 his.0 his.1 done.result _ done.ensures _ a.table.now his.2)

pub follow-requires : goal.follow-requires
follow-requires c = let a = c.args in let pre = c.requires in let done = c.on_message-a in let latest = c.latest_found-latest.result in let core = memory a.log.now a.results.now a.totals.now a.acks.now a.stored.now a.out.now a.reps.now in stays-follow a.s _ done.result _ _ pre.0.sound.sized (message-stays a.m a.s latest a.frame.now core pre.0 pre.1.0) done.ensures pre.1.1

pub returns-in-Some : goal.returns-in-Some
unfolding latest_for
returns-in-Some c = let a = c.args in let done = c.on_message-a in taken a.s a.m a.frame.now (lent a.log.now a.results.now a.totals.now a.acks.now a.stored.now a.table.now a.out.now a.reps.now) c.latest_found-latest.result (c.latest_found-latest.ensures ∙ ap latest_found c.found_for-found.ensures) (followed-is a.s _ done.result _ a.table.now done.ensures c.follow_found.ensures)

pub returns-in-None : goal.returns-in-None
unfolding latest_for
returns-in-None c = let a = c.args in let done = c.on_message-a in taken a.s a.m a.frame.now (lent a.log.now a.results.now a.totals.now a.acks.now a.stored.now a.table.now a.out.now a.reps.now) c.latest_found-latest.result (c.latest_found-latest.ensures ∙ ap latest_found c.found_for-found.ensures) (followed-is a.s _ done.result _ a.table.now done.ensures c.follow.ensures)
