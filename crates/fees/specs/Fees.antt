-- Document 01, "Fee rules". Totals start at 0. Member not below M: outcome 4, total 0. Fee: if the total would pass 1,000,000,000, outcome 5,
-- else add, outcome 1. Refund: if cents exceed the total, outcome 6, else subtract, outcome 2. Ask: outcome 3. Every outcome but 4 gives the
-- total after it. Assumes nothing.
use Rattle.std.specs.Prelude.{List, ℕ, ◌+◌, ◌-◌, ◌*◌, ltb}
use Rattle.numbers.specs.Words.{when◌then◌else◌}
use Rattle.numbers.specs.Numbers.{num, big, put_at}
use Rattle.entries.specs.Entries.{operation_of}
use Rattle.entries.specs.declared.Entry.{Entry}
use Rattle.entries.specs.declared.Operation.{Operation}
use Rattle.entries.specs.declared.Operation.TheVariants.{Fee, Refund, Ask}
use Rattle.fees.specs.declared.Outcome.{Outcome}

-- the outcome's number, and the total after it
abbrev pub gives : ℕ → ℕ → Outcome
gives k t = record { code = k; total = t }

-- the rules on one member's total
unfoldable pub rule : ℕ → Operation → ℕ → Outcome
rule t Fee cents = when ltb 1000000000 (t + cents) then gives 5 t else gives 1 (t + cents)
rule t Refund cents = when ltb t cents then gives 6 t else gives 2 (t - cents)
rule t Ask cents = gives 3 t

-- the total of a member in a run of totals, 8 bytes each
abbrev pub total_at : ℕ → List ℕ → ℕ
total_at member s = num 8 (8 * member) s

-- what an entry gives on M totals
unfoldable pub outcome_on : ℕ → List ℕ → Entry → Outcome
outcome_on M s e = when ltb e.member M then rule (total_at e.member s) (operation_of e.operation) e.cents else gives 4 0

-- the totals after it
unfoldable pub total_bytes_after : ℕ → List ℕ → Entry → List ℕ
total_bytes_after M s e = when ltb e.member M then put_at (8 * e.member) (big 8 (outcome_on M s e).total) s else s
