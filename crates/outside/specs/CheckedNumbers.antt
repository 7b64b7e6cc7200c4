-- A frame's refusals as number and values, by the rules: refusal 1, then what the frame alone earns (`check_numbers`). Assumes nothing.
use Rattle.std.specs.Prelude.{Result, ◌≡◌, not, List, [], ℕ}
use Rattle.numbers.specs.Words.{when◌then◌else◌}
use Rattle.offsets.specs.Offsets.{Points}
use Rattle.frames.specs.Kinds.{well_formed}
use Rattle.frames.specs.Numbered.{Numbered, numbered, checked_number, checked_offset, check_numbers}
use Rattle.frames.specs.declared.Refusal.{Refusal}
use Rattle.state.specs.declared.Replica.{Replica}
use Rattle.outside.specs.Sound.{sound}
use Rattle.outside.specs.Calls.{checked_of}
use Rattle.outside.specs.declared.Lengths.{Lengths}
use Rattle.frames.specs.declared.Message.{Message}

unfoldable pub call_numbers : Replica → Lengths → (frame : List ℕ) → Numbered
call_numbers s l frame = when not (sound s l) then numbered 1 [] else check_numbers s.setup frame

-- what `checked` promises: the enum, its number and values, and where a malformed frame is wrong
pub record ChecksCall (s : Replica) (l : Lengths) (frame : List ℕ) (r : Result Message Refusal) : Type 0 where
  pub exact : r ≡ checked_of s l frame
  pub number : checked_number r ≡ call_numbers s l frame
  pub points : Points well_formed frame (checked_number r).number (checked_offset r)
