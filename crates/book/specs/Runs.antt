-- Results and totals in lent runs, 9 bytes a result, 8 a total: what a commit leaves there; and the replies that are written out of log and
-- results. Assumes nothing.
use Rattle.std.specs.Prelude.{List, [], ◌++◌, ℕ, zero, suc, ◌+◌}
use Rattle.numbers.specs.Numbers.{put_at}
use Rattle.numbers.specs.declared.View.{View}
use Rattle.entries.specs.Places.{result_place, entry_in}
use Rattle.entries.specs.declared.Entry.{Entry}
use Rattle.fees.specs.Fees.{outcome_on, total_bytes_after}
use Rattle.fees.specs.Results.{result_in, encode_result}
use Rattle.fees.specs.Takings.{takings_after}
use Rattle.fees.specs.declared.Outcome.{Outcome}
use Rattle.writers.specs.Writers.{reply}
use Rattle.book.specs.Memory.{Money, money}

-- the entry of op number i + 1 goes through the fee rules of M members: one result more, its member's total changed
unfoldable pub applied : (M : ℕ) → Entry → (i : ℕ) → Money → Money
applied M e i x = money (put_at (result_place i) (encode_result (outcome_on M x.totals e)) x.results) (total_bytes_after M x.totals e)

-- commit_up_to: the k entries after the first `from`, in order
unfoldable pub money_committed : (M : ℕ) (log : List ℕ) (from k : ℕ) → Money → Money
money_committed M log from zero x = x
money_committed M log from (suc k) x = applied M (entry_in log (from + k)) (from + k) (money_committed M log from k x)

-- and the takings t after them: what the fee rules gave for each changes the sum
unfoldable pub takings_committed : (M : ℕ) (log : List ℕ) (from k : ℕ) → Money → (t : ℕ) → ℕ
takings_committed M log from zero x t = t
takings_committed M log from (suc k) x t =
    takings_after
    (takings_committed M log from k x t)
    (outcome_on M (money_committed M log from k x).totals (entry_in log (from + k)))
    (entry_in log (from + k)).cents

-- the reply to an entry, with what it gave
unfoldable pub reply_to : View → Entry → Outcome → List ℕ
reply_to v e o = reply v e.client e.request o.code o.total

-- the replies to the k entries after the first `from`
unfoldable pub replies : View → (log results : List ℕ) (from k : ℕ) → List ℕ
replies v log results from zero = []
replies v log results from (suc k) =
    replies v log results from k ++ reply_to v (entry_in log (from + k)) (result_in results (from + k))
