-- What the client table holds of a client's latest request, whichever way its rows are held. Assumes nothing.
use Rattle.std.specs.Prelude.{Bool, true, false, ℕ, ltb}
use Rattle.std.proofs.Math.Option.{Option, none, some}
use Rattle.numbers.specs.Words.{when◌then◌else◌}
use Rattle.numbers.specs.Numbers.{within}
use Rattle.fees.specs.Fees.{gives}
use Rattle.fees.specs.declared.Outcome.{Outcome}
use Rattle.client_table.specs.declared.Latest.{Latest}
use Rattle.client_table.specs.declared.Latest.TheVariants.{Nothing, Waiting, Answered}

-- The reply that a row in use keeps: one of an outcome that the fee rules can give, 1 to 6. Any other code says that none is kept.
unfoldable pub kept_of : (code total : ℕ) → Option Outcome
kept_of code total = when within 1 6 code then some (gives code total) else none

-- whether a client has a row, the number there, and the reply that is kept
abbrev pub latest_by : (there : Bool) (request : ℕ) (kept : Option Outcome) → Latest
latest_by false request kept = Nothing
latest_by true request none = Waiting request
latest_by true request (some o) = Answered request o

-- of a row in use
abbrev pub held_of : (request code total : ℕ) → Latest
held_of request code total = latest_by true request (kept_of code total)

-- a number is a new one of a client: above that of its latest request, or any where it has no row
unfoldable pub is_new : Latest → ℕ → Bool
is_new Nothing number = true
is_new (Waiting request) number = ltb request number
is_new (Answered request reply) number = ltb request number
