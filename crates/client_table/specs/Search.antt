-- A search by halves, as it is done on any rows: where they rise and unused ones stand last, it finds the first row that isn't before the goal.
-- Assumes nothing.
use Rattle.std.specs.Prelude.{Bool, ℕ, ◌+◌, ◌-◌, ◌/◌, ltb}
use Rattle.numbers.specs.Words.{when◌then◌else◌, ◌and◌}
use Rattle.client_table.specs.declared.Span.{Span}
use Rattle.client_table.specs.declared.Goal.{Goal}
use Rattle.client_table.specs.declared.Goal.TheVariants.{Client, End}

abbrev pub span : ℕ → ℕ → Span
span l h = record { lo = l; hi = h }

abbrev pub mid_of : Span → ℕ
mid_of s = s.lo + (s.hi - s.lo) / 2

-- the half above the middle, or that below it
unfoldable pub halved : Span → Bool → Span
halved s up = when up then span (mid_of s + 1) s.hi else span s.lo (mid_of s)

-- whether a row, in use or not, of a client stands before the goal
unfoldable pub is_before : Bool → ℕ → Goal → Bool
is_before used client (Client c) = used and ltb client c
is_before used client End = used
