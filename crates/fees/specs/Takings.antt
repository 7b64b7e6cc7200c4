-- Document 02, order 4. The takings are the sum over all members, kept in the state: 0 at every creation, and changed only where a Fee or Refund takes
-- effect, outcomes 1 and 2. More than 4,096,000,000,000, which is 4,096 members at the limit of their totals, is refusal 1. A sum that calls produced is that
-- of the totals, and meets neither cut; one that no call produced stays at 4,096,000,000,000 where it would pass it, and at 0 where it would fall below. Assumes nothing.
use Rattle.std.specs.Prelude.{ℕ, ◌+◌, ◌-◌, min, eqb}
use Rattle.numbers.specs.Words.{when◌then◌else◌}
use Rattle.fees.specs.declared.Outcome.{Outcome}

-- the most that is taken for a sum
abbrev pub most_takings : ℕ
most_takings = 4096000000000

-- cents more, to the most
abbrev pub added : (takings cents : ℕ) → ℕ
added t cents = min (t + cents) most_takings

-- the takings after an entry of so many cents gave this outcome
unfoldable pub takings_after : (takings : ℕ) → Outcome → (cents : ℕ) → ℕ
takings_after t o cents =
    when eqb o.code 1 then added t cents else
    when eqb o.code 2 then t - cents else
    t
