-- What a NewState is used for, as number and values: no case is a refusal, so the number is 0 (refusal 6 comes later, on the log that would result). The values are
-- 1 or 0 for three things: it is of our view, so the primary was heard; it fills the gap after our log; it replaces what isn't committed. Assumes nothing.
use Rattle.std.specs.Prelude.{◌≡◌, [], ◌∷◌, eqb, ltb, leb}
use Rattle.numbers.specs.Words.{when◌then◌else◌, ◌and◌}
use Rattle.numbers.specs.declared.View.{View}
use Rattle.frames.specs.Numbered.{Numbered, numbered}
use Rattle.state.specs.Statuses.{is_transfer, is_changing}
use Rattle.state.specs.declared.Replica.{Replica}
use Rattle.transfer.specs.NewState.{use_of}
use Rattle.transfer.specs.declared.Part.{Part}
use Rattle.transfer.specs.declared.Use.{Use}
use Rattle.transfer.specs.declared.Use.TheVariants.{Ignore, Hear, Fill, Install}

abbrev pub use_number : Use → Numbered
use_number Ignore = numbered 0 (0 ∷ 0 ∷ 0 ∷ [])
use_number Hear = numbered 0 (1 ∷ 0 ∷ 0 ∷ [])
use_number Fill = numbered 0 (1 ∷ 1 ∷ 0 ∷ [])
use_number Install = numbered 0 (1 ∷ 0 ∷ 1 ∷ [])

-- By the rules. In StateTransfer it must start at or before our log's end and end beyond it; catching up, it must start exactly at our commit number.
unfoldable pub use_numbers : Replica → View → Part → Numbered
use_numbers s v p =
    numbered 0
    ((when eqb v.0 s.view.0 then 1 else 0)
    ∷ (when eqb v.0 s.view.0 and is_transfer s.status and leb p.start.0 s.op.0 and ltb s.op.0 p.end.0 then 1 else 0)
    ∷ (when eqb v.0 s.view.0 and is_changing s.status and s.catching and eqb p.start.0 s.commit.0 then 1 else 0)
    ∷ [])

-- what `use_of` promises: the enum, and its number and values
pub record Uses (s : Replica) (v : View) (p : Part) (r : Use) : Type 0 where
  pub exact : r ≡ use_of s v p
  pub number : use_number r ≡ use_numbers s v p
