-- Log, results and totals hold bytes again after what the handlers write there; Prepare, Commit and NewState.
--     MoneyBytes, RunBytes, LeftBytes                 runs that hold bytes
--     entry-bytes, with-bytes, with-log               entries written
--     committed-bytes, settled-bytes, acked-bytes     commits
--     commit-bytes, prepare-bytes, new-state-bytes    the handlers
-- Assumes nothing.
use mathlib.Core.Path.{◌≡◌, subst}
use mathlib.Core.Bool.{Bool}
use mathlib.Core.List.{List, ◌++◌, append-nil}
use Prim.Native.Nat.{ℕ, zero, suc, ◌+◌, ◌-◌, ◌*◌}
use lib.ListN.{length}
use lib.Seq.{take-length, drop-length, drop-nil}
use Rattle.numbers.specs.Numbers.{big, put_at, over, Bytes}
use Rattle.numbers.specs.declared.View.{View}
use Rattle.numbers.specs.declared.Op.{Op}
use Rattle.numbers.proofs.WordLaws.{split}
use Rattle.numbers.proofs.NumberLaws.{big-bytes, take-bytes, drop-bytes}
use Rattle.numbers.proofs.RunLaws.{put-bytes}
use Rattle.entries.specs.Entries.{encode_entry}
use Rattle.entries.specs.declared.Entry.{Entry}
use Rattle.fees.specs.Fees.{total_bytes_after}
use Rattle.fees.specs.Results.{encode_result}
use Rattle.fees.specs.declared.Outcome.{Outcome}
use Rattle.book.specs.Log.{with_entries}
use Rattle.book.specs.Runs.{applied, money_committed}
use Rattle.book.specs.Memory.{Money, Runs}
use Rattle.state.specs.declared.Replica.{Replica}
use Rattle.steps.specs.Steps.{Left, settled, committed_and_acked}
use Rattle.normal.specs.Prepare as Prepare
use Rattle.normal.specs.Prepare.{appended_by, prepare_step}
use Rattle.normal.specs.Commit.{taken_commit, commit_step}
use Rattle.normal.specs.declared.prepare.Prepared.{Prepared}
use Rattle.normal.specs.declared.prepare.PrepareVerdict.{PrepareVerdict}
use Rattle.normal.specs.declared.prepare.PrepareVerdict.TheVariants as Verdicts
use Rattle.transfer.specs.NewState.{extended, gap_filled, installed, by_use, new_state_step}
use Rattle.transfer.specs.declared.Part.{Part}
use Rattle.transfer.specs.declared.Use.{Use}
use Rattle.transfer.specs.declared.Use.TheVariants.{Ignore, Hear, Fill, Install}

pub record MoneyBytes (x : Money) : Type 0 where
  pub results : Bytes x.results
  pub totals : Bytes x.totals

pub record RunBytes (x : Runs) : Type 0 where
  pub log : Bytes x.log
  pub money : MoneyBytes x.money

-- ---- what is written

-- one run behind another, which is a run put at the other's end
both_bytes : (p q : List ℕ) → Bytes p → Bytes q → Bytes (p ++ q)
unfolding put_at over
both_bytes p q a b = subst Bytes at-end (put-bytes (length p) q p b a)
  where
    at-end : put_at (length p) q p ≡ p ++ q
    at-end = rw (take-length p, drop-length p, drop-nil {A = ℕ} (length q), append-nil q)

pub entry-bytes : (e : Entry) → Bytes (encode_entry e)
unfolding encode_entry
entry-bytes e =
    let a = big 8 e.client in
    let b = a ++ big 8 e.request in
    let c = b ++ big 1 e.operation in
    let d = c ++ big 3 0 in
    let f = d ++ big 4 e.member in
    both_bytes f (big 8 e.cents)
    (both_bytes d (big 4 e.member)
    (both_bytes c (big 3 0)
    (both_bytes b (big 1 e.operation) (both_bytes a (big 8 e.request) (big-bytes 8 e.client) (big-bytes 8 e.request))
    (big-bytes 1 e.operation)) (big-bytes 3 0)) (big-bytes 4 e.member)) (big-bytes 8 e.cents)

result-bytes : (o : Outcome) → Bytes (encode_result o)
unfolding encode_result
result-bytes o = both_bytes (big 1 o.code) (big 8 o.total) (big-bytes 1 o.code) (big-bytes 8 o.total)

pub with-bytes : (n : ℕ) (es log : List ℕ) → Bytes es → Bytes log → Bytes (with_entries n es log)
unfolding with_entries
with-bytes n es log a b = put-bytes _ es log a b

applied-bytes : (M : ℕ) (e : Entry) (i : ℕ) (x : Money) → MoneyBytes x → MoneyBytes (applied M e i x)
unfolding applied total_bytes_after
applied-bytes M e i x h =
    record {
      results = put-bytes (9 * i) _ x.results (result-bytes _) h.results;
      totals = split Bytes _ _ _ (λ _. put-bytes _ _ x.totals (big-bytes 8 _) h.totals) (λ _. h.totals);
    }

pub committed-bytes : (M : ℕ) (log : List ℕ) (from k : ℕ) (x : Money) → MoneyBytes x → MoneyBytes (money_committed M log from k x)
unfolding money_committed
committed-bytes M log from zero x h = h
committed-bytes M log from (suc k) x h = applied-bytes M _ (from + k) _ (committed-bytes M log from k x h)

pub settled-bytes : (t : Replica) (k : Op) (x : Runs) → RunBytes x → RunBytes (settled t k x)
unfolding settled
settled-bytes t k x h = record { log = h.log; money = committed-bytes _ _ _ _ x.money h.money }

pub with-log : (x : Runs) (n : ℕ) (es : List ℕ) → RunBytes x → Bytes es → RunBytes (record { log = with_entries n es x.log; money = x.money })
with-log x n es h b = record { log = with-bytes n es x.log b h.log; money = h.money }

abbrev pub LeftBytes : Left → Type 0
LeftBytes d = RunBytes d.runs

pub acked-bytes : (s t : Replica) (k : Op) (i : Bool) (x : Runs) (out : List ℕ) → RunBytes x → LeftBytes (committed_and_acked s t k i x out)
unfolding committed_and_acked
acked-bytes s t k i x out h = split LeftBytes _ _ _ (λ _. h) (λ _. settled-bytes t k x h)

-- ---- Prepare, Commit, NewState

module _ (s : Replica) (x : Runs) (h : RunBytes x) (out : List ℕ) where
  pub commit-bytes : (v : View) (c : Op) → LeftBytes (commit_step s v c x out)
  unfolding commit_step taken_commit
  commit-bytes v c =
      split LeftBytes _ _ _ (λ _. split LeftBytes _ _ _ (λ _. h) (λ _. settled-bytes _ c x h)) (λ _. h)

  verdict-bytes : (p : Prepared) (d : PrepareVerdict) → LeftBytes (Prepare.by_prepare_verdict d s p x out)
  unfolding Prepare.by_prepare_verdict appended_by
  verdict-bytes p Verdicts.Transfer = h
  verdict-bytes p Verdicts.Again = acked-bytes _ _ _ _ x out h
  verdict-bytes p (Verdicts.Refuse k) = h
  verdict-bytes p Verdicts.Append =
      split LeftBytes _ _ _ (λ _. h) (λ _. acked-bytes _ _ _ _ _ out (with-log x s.op.0 _ h (entry-bytes p.entry)))

  pub prepare-bytes : (v : View) (p : Prepared) → LeftBytes (prepare_step s v p x out)
  unfolding prepare_step Prepare.taken_prepare
  prepare-bytes v p = split LeftBytes _ _ _ (λ _. verdict-bytes p _) (λ _. h)

  extended-bytes : (t : Replica) (n k : ℕ) (p : Part) (i : Bool) (part : List ℕ) → Bytes part → LeftBytes (extended s t n k p i part x out)
  unfolding extended
  extended-bytes t n k p i part b =
      split LeftBytes _ _ _ (λ _. h) λ _.
      split LeftBytes _ _ _ (λ _. h) (λ _. acked-bytes _ _ _ _ _ out (with-log x n _ h (take-bytes (32 * k) part b)))

  use-bytes : (u : Use) (p : Part) (part : List ℕ) → Bytes part → LeftBytes (by_use u s p part x out)
  unfolding by_use gap_filled installed
  use-bytes Ignore p part b = h
  use-bytes Hear p part b = h
  use-bytes Fill p part b = extended-bytes _ _ _ p _ _ (drop-bytes (32 * (s.op.0 - p.start.0)) part b)
  use-bytes Install p part b = extended-bytes _ _ _ p _ part b

  pub new-state-bytes : (v : View) (p : Part) (part : List ℕ) → Bytes part → LeftBytes (new_state_step s v p part x out)
  unfolding new_state_step
  new-state-bytes v p part b = use-bytes _ p part b
