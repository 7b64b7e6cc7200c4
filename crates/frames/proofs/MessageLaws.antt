-- Laws of what a frame says.
--     parsed               what a parsed frame and its message keep: `Said`
--     bytes-none, bytes-are    the entries of a message's frame
--     accepted, malformed-back, malformed-exactly     refusal 2 is given exactly where `well_formed` is false
-- Assumes nothing.
use Rattle.std.specs.Prelude.{Option, Some, None, Result, Ok, Err}
use mathlib.Core.Path.{◌≡◌, refl, sym, ap, ◌∙◌}
use mathlib.Core.Bool.{Bool, true, false}
use mathlib.Core.List.{List}
use Prim.Native.Nat.{ℕ, ◌+◌, ◌-◌, ◌*◌, ◌≤◌, ◌<◌}
use native.Mathlib.Nat.{le_refl}
use native.Mathlib.Omega.{arith}
use lib.Dec.{eqb, lit≤}
use lib.ListN.{length, take, drop, length-drop, drop_of_length-le}
use lib.Seq.{take_all}
use Rattle.numbers.specs.Words.{when◌then◌else◌}
use Rattle.numbers.specs.Numbers.{num, op_at}
use Rattle.numbers.specs.declared.Op.{Op}
use Rattle.numbers.proofs.WordLaws.{if-true, if-false}
use Rattle.frames.specs.Kinds.{kind_number, room_of, count_of, well_formed}
use Rattle.frames.specs.FrameRules.{offset_of}
use Rattle.frames.specs.Messages.{progress, addressed, response_state, message_of, parse_frame, state_row, carried_of, carried_bytes}
use Rattle.frames.specs.Numbered.{parsed_number}
use Rattle.frames.specs.declared.Progress.{Progress}
use Rattle.frames.specs.declared.Message.{Message}
use Rattle.frames.specs.declared.Addressed.{Addressed}
use Rattle.frames.specs.declared.Refusal.{Refusal}
use Rattle.frames.specs.declared.Refusal.TheVariants.{Malformed}
use Rattle.frames.proofs.KindLaws.{each-kind, WellFormed, well-formed}
use Rattle.numbers.specs.Numbers.{Bytes}
use Rattle.numbers.proofs.NumberLaws.{drop-bytes}

-- ---- the kind of a message

state-kind : (r : ℕ) (t : Option Progress) → kind_number (state_row r t).kind ≡ 11
unfolding state_row
state-kind r None = refl
state-kind r (Some p) = refl

-- ---- what a well-formed frame says

kind-said : (s : List ℕ) (k : ℕ) → 1 ≤ k → k ≤ 11 → kind_number (carried_of (message_of k s)).kind ≡ k
unfolding message_of carried_of when◌then◌else◌
kind-said s =
    each-kind (λ k. kind_number (carried_of (message_of k s)).kind ≡ k)
    record {
      k1 = refl;
      k2 = refl;
      k3 = refl;
      k4 = refl;
      k5 = refl;
      k6 = refl;
      k7 = refl;
      k8 = refl;
      k9 = refl;
      k10 = refl;
      k11 = state-kind (num 1 19 s) (response_state s);
    }

-- a carried log stands in the frame: of a RecoveryResponse
state-size : (r : ℕ) (b : Bool) (o c : Op)
    → (state_row r (when b then Some (progress o c) else None)).start + 32 * (state_row r (when b then Some (progress o c) else None)).whole ≤ (when b then 29 else 21) + 32 * (when b then o.0 else 0)
unfolding state_row when◌then◌else◌
state-size r true o c = le_refl (29 + 32 * o.0)
state-size r false o c = lit≤ tt

-- of each kind
size-said : (s : List ℕ) (k : ℕ) → 1 ≤ k → k ≤ 11 → (carried_of (message_of k s)).start + 32 * (carried_of (message_of k s)).whole ≤ room_of k s + 32 * count_of k s
unfolding message_of response_state carried_of room_of count_of when◌then◌else◌
size-said s =
    each-kind (λ k. (carried_of (message_of k s)).start + 32 * (carried_of (message_of k s)).whole ≤ room_of k s + 32 * count_of k s)
    record {
      k1 = lit≤ tt;
      k2 = lit≤ tt;
      k3 = lit≤ tt;
      k4 = lit≤ tt;
      k5 = lit≤ tt;
      k6 = omega arith;
      k7 = lit≤ tt;
      k8 = le_refl (24 + 32 * num 4 16 s);
      k9 = le_refl (19 + 32 * num 4 11 s);
      k10 = lit≤ tt;
      k11 = state-size (num 1 19 s) (eqb (num 1 20 s) 1) (op_at 21 s) (op_at 25 s);
    }

-- ---- what follows the fields

module _ (m : Message) (s : List ℕ) (at : ℕ) (e : at ≡ (carried_of m).start) where
  pub bytes-none : length s < at → take (length s - length s) (drop (length s) s) ≡ carried_bytes m s
  unfolding carried_bytes
  bytes-none h =
      take_all (length s - length s) (drop (length s) s) (omega (arith, length-drop (length s) s))
      ∙ drop_of_length-le s {i = length s} (omega arith) ∙ sym (drop_of_length-le s {i = (carried_of m).start} (omega (arith, h, e)))

  pub bytes-are : take (length s - at) (drop at s) ≡ carried_bytes m s
  unfolding carried_bytes
  bytes-are = rw (← e) (take_all (length s - at) (drop at s) (omega (arith, length-drop at s)))

-- ---- refusal 2, in both directions

pub accepted : (s : List ℕ) → well_formed s ≡ true → parse_frame s ≡ Ok (addressed (num 1 6 s) (message_of (num 1 5 s) s))
unfolding parse_frame
accepted s h = if-true (well_formed s) (Ok (addressed (num 1 6 s) (message_of (num 1 5 s) s))) (Err (Malformed (offset_of s))) h

pub malformed-back : (s : List ℕ) → well_formed s ≡ false → parse_frame s ≡ Err (Malformed (offset_of s))
unfolding parse_frame
malformed-back s h = if-false (well_formed s) (Ok (addressed (num 1 6 s) (message_of (num 1 5 s) s))) (Err (Malformed (offset_of s))) h

pub malformed-exactly : (s : List ℕ) → (parsed_number (parse_frame s)).number ≡ 2 → well_formed s ≡ false
malformed-exactly s h = go (well_formed s) refl
  where
    go : (b : Bool) → well_formed s ≡ b → well_formed s ≡ false
    go true e = absurd (omega (arith, sym h ∙ ap (λ (p : Result Addressed Refusal). (parsed_number p).number) (accepted s e)))
    go false e = e

-- ---- what a caller has from a parsed frame

pub record Said (s : List ℕ) (to : ℕ) (m : Message) : Type 0 where
  pub form : WellFormed s
  pub addressee : to ≡ num 1 6 s
  pub message : m ≡ message_of (num 1 5 s) s
  pub kind : kind_number (carried_of m).kind ≡ num 1 5 s
  pub size : (carried_of m).start + 32 * (carried_of m).whole ≤ length s

pub parsed : (s : List ℕ) (f : Addressed) → parse_frame s ≡ Ok f → Said s f.to f.message
parsed s f h = go (well_formed s) refl
  where
    go : (b : Bool) → well_formed s ≡ b → Said s f.to f.message
    go false e = absurd (omega (arith, ap (λ (p : Result Addressed Refusal). (parsed_number p).number) (sym h ∙ malformed-back s e)))
    go true e =
        let w = well-formed s e in
        let p : Ok f ≡ Ok (addressed (num 1 6 s) (message_of (num 1 5 s) s)) = sym h ∙ accepted s e in
        let same : f ≡ addressed (num 1 6 s) (message_of (num 1 5 s) s) = cc p in
        let q : f.message ≡ message_of (num 1 5 s) s = ap (λ (x : Addressed). x.message) same in
        record {
          form = w;
          addressee = ap (λ (x : Addressed). x.to) same;
          message = q;
          kind = rw q (kind-said s (num 1 5 s) w.low w.high);
          size = rw q (omega (arith, size-said s (num 1 5 s) w.low w.high, w.exact));
        }

pub carried-in-bytes : (x : Message) (frame : List ℕ) → Bytes frame → Bytes (carried_bytes x frame)
unfolding carried_bytes
carried-in-bytes x frame b = drop-bytes (carried_of x).start frame b
