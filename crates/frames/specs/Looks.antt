-- Document 01, "Steps that are easy to misread": which kinds are looked at. Normal: 1 to 10. StateTransfer and ViewChange: 2, 4, 6, 7, 8, 9, 10.
-- Recovering: 11. Assumes nothing.
use Rattle.std.specs.Prelude.{Bool, ℕ, eqb}
use Rattle.numbers.specs.Words.{◌or◌}
use Rattle.numbers.specs.Numbers.{within}
use Rattle.frames.specs.Kinds.{kind_number}
use Rattle.frames.specs.declared.Kind.{Kind}
use Rattle.frames.specs.declared.Status.{Status}
use Rattle.frames.specs.declared.Status.TheVariants.{Normal, StateTransfer, ViewChange, Recovering}

-- the number of each status: its row in the table
abbrev pub status_number : Status → ℕ
status_number Normal = 0
status_number StateTransfer = 1
status_number ViewChange = 2
status_number Recovering = 3

unfoldable pub changing : Kind → Bool
changing k = eqb (kind_number k) 2 or eqb (kind_number k) 4 or within 6 10 (kind_number k)

-- whether a status looks at a kind
unfoldable pub looks_at : Status → Kind → Bool
looks_at Normal k = within 1 10 (kind_number k)
looks_at StateTransfer k = changing k
looks_at ViewChange k = changing k
looks_at Recovering k = eqb (kind_number k) 11
