-- Refusal 2 comes with the offset of the frame's first wrong byte, every other answer with 0.
--     formed-points       the answer to a well-formed frame; the answer to a malformed one
--     parsed-points       a parse
--     checked-points      a check
-- Assumes nothing.
use Rattle.std.specs.Prelude.{Result, Ok, Err}
use mathlib.Core.Path.{◌≡◌, refl, subst, sym}
use mathlib.Core.Bool.{Bool, true, false}
use mathlib.Core.List.{List}
use Prim.Native.Nat.{ℕ}
use native.Mathlib.Omega.{arith}
use lib.Dec.{eqb}
use Rattle.numbers.specs.Numbers.{num}
use Rattle.numbers.proofs.WordLaws.{split}
use Rattle.config.specs.declared.Setup.{Setup}
use Rattle.offsets.specs.Offsets.{Points}
use Rattle.offsets.proofs.OffsetLaws.{points, unpointed}
use Rattle.frames.specs.Kinds.{well_formed}
use Rattle.frames.specs.FrameRules.{frame_rule, offset_of}
use Rattle.frames.specs.Messages.{message_of, carried_of, parse_frame}
use Rattle.frames.specs.Refusals.{refusal_of, verdict, check_parsed, check_frame}
use Rattle.frames.specs.Numbered.{parsed_number, parsed_offset, checked_number, checked_offset}
use Rattle.frames.specs.declared.Message.{Message}
use Rattle.frames.specs.declared.Carried.{Carried}
use Rattle.frames.specs.declared.Addressed.{Addressed}
use Rattle.frames.specs.declared.Refusal.TheVariants.{NotForUs, PastRoom, PastLog, NotRising}
use Rattle.frames.specs.declared.Refusal.{Refusal}
use Rattle.frames.proofs.BodyLaws.{frame-rules}
use Rattle.frames.proofs.MessageLaws.{accepted, malformed-back}

-- no number but 2 points
pub other-points : (s : List ℕ) (k : ℕ) → (k ≡ 2 → ⊥) → Points well_formed s k 0
other-points s k h = unpointed well_formed s {k = k} h

wrong-points : (s : List ℕ) → Points well_formed s 2 (offset_of s)
unfolding offset_of
wrong-points s = points well_formed s frame_rule frame-rules

-- a parse
abbrev ParsedPoints : List ℕ → Result Addressed Refusal → Type 0
ParsedPoints s p = Points well_formed s (parsed_number p).number (parsed_offset p)

pub parsed-points : (s : List ℕ) → Points well_formed s (parsed_number (parse_frame s)).number (parsed_offset (parse_frame s))
parsed-points s = go (well_formed s) refl
  where
    go : (b : Bool) → well_formed s ≡ b → Points well_formed s (parsed_number (parse_frame s)).number (parsed_offset (parse_frame s))
    go true e = subst (ParsedPoints s) (sym (accepted s e)) (other-points s 0 (λ q. omega (arith, q)))
    go false e = subst (ParsedPoints s) (sym (malformed-back s e)) (wrong-points s)

-- a check
abbrev CheckedPoints : List ℕ → Result Message Refusal → Type 0
CheckedPoints s p = Points well_formed s (checked_number p).number (checked_offset p)

-- refusals 3 to 6 are others
judged-points : (u : Setup) (to : ℕ) (x : Carried) (s : List ℕ) (m : Message) → CheckedPoints s (verdict (refusal_of u to x s) m)
unfolding refusal_of verdict
judged-points u to x s m =
    let P : Result (Unit {0}) Refusal → Type 0 = λ j. CheckedPoints s (verdict j m) in
    split P _ (Err NotForUs) _ (λ b. other-points s 3 (λ q. omega (arith, q))) (λ b.
    split P _ (Err PastRoom) _ (λ b. other-points s 4 (λ q. omega (arith, q))) (λ b.
    split P _ (Err PastLog) _ (λ b. other-points s 5 (λ q. omega (arith, q))) (λ b.
    split P _ (Err NotRising) (Ok tt) (λ b. other-points s 6 (λ q. omega (arith, q))) (λ b. other-points s 0 (λ q. omega (arith, q))))))

pub checked-points : (u : Setup) (s : List ℕ) → Points well_formed s (checked_number (check_frame u s)).number (checked_offset (check_frame u s))
unfolding check_frame check_parsed
checked-points u s = go (well_formed s) refl
  where
    go : (b : Bool) → well_formed s ≡ b → CheckedPoints s (check_parsed u s (parse_frame s))
    go true e =
        let m = message_of (num 1 5 s) s in
        subst (λ (p : Result Addressed Refusal). CheckedPoints s (check_parsed u s p)) (sym (accepted s e))
        (judged-points u (num 1 6 s) (carried_of m) s m)
    go false e = subst (λ (p : Result Addressed Refusal). CheckedPoints s (check_parsed u s p)) (sym (malformed-back s e)) (wrong-points s)
