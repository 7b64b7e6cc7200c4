-- The number and values of a frame's refusals are those by the rules (call-number), 2 comes with the offset of its first wrong byte (call-points), so that who
-- answers the definition keeps the whole promise (checks-call).
-- Assumes nothing.
use Rattle.std.specs.Prelude.{Result, Ok, Err}
use mathlib.Core.Path.{◌≡◌, refl, ap, ◌∙◌}
use mathlib.Core.Bool.{Bool, true, false, not}
use mathlib.Core.List.{List, []}
use Prim.Native.Nat.{ℕ}
use native.Mathlib.Omega.{arith}
use Rattle.numbers.specs.Words.{when◌then◌else◌}
use Rattle.numbers.proofs.WordLaws.{split}
use Rattle.offsets.specs.Offsets.{Points}
use Rattle.frames.specs.Kinds.{well_formed}
use Rattle.frames.specs.Numbered.{Numbered, numbered, checked_number, checked_offset, check_numbers}
use Rattle.frames.specs.Refusals.{check_frame}
use Rattle.frames.specs.declared.Refusal.{Refusal}
use Rattle.frames.proofs.NumberedLaws.{checked-number}
use Rattle.frames.proofs.PointLaws.{other-points, checked-points}
use Rattle.state.specs.declared.Replica.{Replica}
use Rattle.outside.specs.Sound.{sound}
use Rattle.outside.specs.Calls.{checked_of}
use Rattle.outside.specs.CheckedNumbers.{call_numbers, ChecksCall}
use Rattle.outside.specs.declared.Lengths.{Lengths}
use Rattle.frames.specs.declared.Refusal.TheVariants.{OutOfRange}
use Rattle.frames.specs.declared.Message.{Message}

by-sound : (b : Bool) (r : Result Message Refusal) (x : Numbered) → checked_number r ≡ x → checked_number (when not b then Err OutOfRange else r) ≡ (when not b then numbered 1 [] else x)
unfolding when◌then◌else◌
by-sound false r x e = refl
by-sound true r x e = e

module _ (s : Replica) (l : Lengths) (frame : List ℕ) where
  pub call-number : checked_number (checked_of s l frame) ≡ call_numbers s l frame
  unfolding checked_of call_numbers
  call-number = by-sound (sound s l) (check_frame s.setup frame) (check_numbers s.setup frame) (checked-number s.setup frame)

  pub call-points : Points well_formed frame (checked_number (checked_of s l frame)).number (checked_offset (checked_of s l frame))
  unfolding checked_of
  call-points =
      split (λ (r : Result Message Refusal). Points well_formed frame (checked_number r).number (checked_offset r)) (not (sound s l)) (Err OutOfRange) (check_frame s.setup frame)
      (λ _. other-points frame 1 (λ e. omega (arith, e))) (λ _. checked-points s.setup frame)

  pub checks-call : (r : Result Message Refusal) → r ≡ checked_of s l frame → ChecksCall s l frame r
  checks-call r e = record { exact = e; number = ap checked_number e ∙ call-number; points = rw e call-points }
