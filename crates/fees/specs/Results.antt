-- A result in lent bytes: what the fee rules gave for an applied entry, 9 bytes: the outcome's number 1, the total 8. Assumes nothing.
use Rattle.std.specs.Prelude.{List, ◌++◌, ℕ, ◌^◌, ◌<◌, drop}
use Rattle.numbers.specs.Numbers.{big, num}
use Rattle.numbers.specs.Cells.{cells}
use Rattle.entries.specs.Places.{result_place}
use Rattle.fees.specs.declared.Outcome.{Outcome}

-- the result that the first 9 bytes stand for; every byte has a meaning
unfoldable pub result_of : List ℕ → Outcome
result_of s = record { code = num 1 0 s; total = num 8 1 s }

-- the result of op number i + 1
abbrev pub result_in : List ℕ → ℕ → Outcome
result_in results i = result_of (drop (result_place i) results)

-- a result's bytes
unfoldable pub encode_result : Outcome → List ℕ
encode_result o = big 1 o.code ++ big 8 o.total

-- what the types of its fields say
pub record ResultFits (o : Outcome) : Type 0 where
  pub code : o.code < 2 ^ 8
  pub total : o.total < 2 ^ 64

-- the first k results of a run
abbrev pub outcomes : ℕ → List ℕ → List Outcome
outcomes k s = cells 9 result_of k s
