-- Laws of the numbers and values of what a frame says.
--     fields-said        the kind and fields of the message are those of the frame table
--     parsed-number      the number and values of a parse are those that the bytes give
--     checked-number     those of a check likewise: 2 to 6 by the refusal table, or 0 with the message
--     parses, checks     so that who answers the definition keeps the whole promise
-- Assumes nothing.
use Rattle.std.specs.Prelude.{Option, Some, None, Result, Ok, Err}
use mathlib.Core.Path.{◌≡◌, refl, sym, ap, ◌∙◌}
use mathlib.Core.Bool.{Bool, true, false, not}
use mathlib.Core.List.{List, [], ◌∷◌}
use Prim.Native.Nat.{ℕ, ◌≤◌}
use lib.Dec.{eqb}
use lib.ListN.{drop}
use borrow.Author.Tests.{ne_eqb}
use Rattle.numbers.specs.Words.{when◌then◌else◌, ◌or◌}
use Rattle.numbers.specs.Numbers.{num, op_at}
use Rattle.numbers.specs.Cells.{cells}
use Rattle.numbers.specs.declared.Op.{Op}
use Rattle.numbers.proofs.WordLaws.{split, if-true, if-false}
use Rattle.numbers.proofs.NumberLaws.{num-drop}
use Rattle.entries.specs.Entries.{entry_of, entries}
use Rattle.config.specs.declared.Setup.{Setup}
use Rattle.frames.specs.Kinds.{room_of, count_of, well_formed}
use Rattle.frames.specs.Messages.{progress, response_state, message_of, parse_frame, state_row, carried_of}
use Rattle.frames.specs.Refusals.{number_of, whole_log, refusal_of, verdict, check_parsed, check_frame}
use Rattle.frames.specs.Numbered.{numbered, entry_values, state_values, fields_of, parsed_number, checked_number, in_turn, entry_numbers, fields_in, sender_in, op_in, commit_in, log_in, earned_by, parse_numbers, check_numbers, Parses, Checks}
use Rattle.frames.specs.declared.Progress.{Progress}
use Rattle.frames.specs.declared.Message.{Message}
use Rattle.frames.specs.declared.Addressed.{Addressed}
use Rattle.frames.specs.declared.Refusal.TheVariants.{NotForUs, PastRoom, PastLog, NotRising}
use Rattle.frames.specs.declared.Refusal.{Refusal}
use Rattle.frames.proofs.KindLaws.{each-kind, well-formed}
use Rattle.frames.proofs.MessageLaws.{accepted, malformed-back}
use Rattle.frames.proofs.PointLaws.{parsed-points, checked-points}
use Rattle.frames.proofs.RefusalLaws.{number-some}

-- ---- the fields

entry-7 : (s : List ℕ) → entry_values (entry_of (drop 7 s)) ≡ entry_numbers 7 s
unfolding entry_of in_turn
entry-7 s = rw (num-drop 8 7 0 s, num-drop 8 7 8 s, num-drop 1 7 16 s, num-drop 4 7 20 s, num-drop 8 7 24 s)

entry-19 : (s : List ℕ) → entry_values (entry_of (drop 19 s)) ≡ entry_numbers 19 s
unfolding entry_of in_turn
entry-19 s = rw (num-drop 8 19 0 s, num-drop 8 19 8 s, num-drop 1 19 16 s, num-drop 4 19 20 s, num-drop 8 19 24 s)

state-said : (b : Bool) (s : List ℕ) → state_values (when b then Some (progress (op_at 21 s) (op_at 25 s)) else None) ≡ (when b then 1 ∷ in_turn (4 ∷ 4 ∷ []) 21 s else 0 ∷ [])
unfolding state_values in_turn when◌then◌else◌
state-said true s = refl
state-said false s = refl

pub fields-said : (s : List ℕ) (k : ℕ) → 1 ≤ k → k ≤ 11 → fields_of (message_of k s) ≡ fields_in k s
unfolding fields_of message_of response_state fields_in in_turn when◌then◌else◌
fields-said s =
    each-kind (λ k. fields_of (message_of k s) ≡ fields_in k s)
    record {
      k1 = ap (λ (x : List ℕ). 1 ∷ x) (entry-7 s);
      k2 = ap (λ (x : List ℕ). 2 ∷ num 4 7 s ∷ num 4 11 s ∷ num 4 15 s ∷ x) (entry-19 s);
      k3 = refl;
      k4 = refl;
      k5 = refl;
      k6 = refl;
      k7 = refl;
      k8 = refl;
      k9 = refl;
      k10 = refl;
      k11 = ap (λ (x : List ℕ). 11 ∷ num 4 7 s ∷ num 8 11 s ∷ num 1 19 s ∷ x) (state-said (eqb (num 1 20 s) 1) s);
    }

-- ---- what is judged

-- the row of a message, by the bytes of its frame
record Judges (s : List ℕ) (k : ℕ) : Type 0 where
  sender : (carried_of (message_of k s)).sender ≡ sender_in k s
  op : (carried_of (message_of k s)).op.0 ≡ op_in k s
  commit : (carried_of (message_of k s)).commit.0 ≡ commit_in k s
  log : whole_log (carried_of (message_of k s)) s ≡ log_in k s

-- of a RecoveryResponse
state-sender : (r : ℕ) (t : Option Progress) → (state_row r t).sender ≡ r
unfolding state_row
state-sender r None = refl
state-sender r (Some p) = refl

module _ (r : ℕ) (o c : Op) where
  state-op : (b : Bool) → (state_row r (when b then Some (progress o c) else None)).op.0 ≡ (when b then o.0 else 0)
  unfolding state_row when◌then◌else◌
  state-op true = refl
  state-op false = refl

  state-commit : (b : Bool) → (state_row r (when b then Some (progress o c) else None)).commit.0 ≡ (when b then c.0 else 0)
  unfolding state_row when◌then◌else◌
  state-commit true = refl
  state-commit false = refl

  state-log : (s : List ℕ) (b : Bool) → whole_log (state_row r (when b then Some (progress o c) else None)) s ≡ entries (when b then o.0 else 0) (drop (when b then 29 else 21) s)
  unfolding whole_log state_row when◌then◌else◌
  state-log s true = refl
  state-log s false = refl

judges : (s : List ℕ) (k : ℕ) → 1 ≤ k → k ≤ 11 → Judges s k
unfolding carried_of message_of response_state sender_in op_in commit_in log_in whole_log cells room_of count_of when◌then◌else◌ ◌or◌
judges s =
    let b = eqb (num 1 20 s) 1 in
    each-kind (Judges s)
    record {
      k1 = record { sender = refl; op = refl; commit = refl; log = refl };
      k2 = record { sender = refl; op = refl; commit = refl; log = refl };
      k3 = record { sender = refl; op = refl; commit = refl; log = refl };
      k4 = record { sender = refl; op = refl; commit = refl; log = refl };
      k5 = record { sender = refl; op = refl; commit = refl; log = refl };
      k6 = record { sender = refl; op = refl; commit = refl; log = refl };
      k7 = record { sender = refl; op = refl; commit = refl; log = refl };
      k8 = record { sender = refl; op = refl; commit = refl; log = refl };
      k9 = record { sender = refl; op = refl; commit = refl; log = refl };
      k10 = record { sender = refl; op = refl; commit = refl; log = refl };
      k11 = record {
        sender = state-sender (num 1 19 s) (response_state s);
        op = state-op (num 1 19 s) (op_at 21 s) (op_at 25 s) b;
        commit = state-commit (num 1 19 s) (op_at 21 s) (op_at 25 s) b;
        log = state-log (num 1 19 s) (op_at 21 s) (op_at 25 s) s b;
      };
    }

-- ---- a parse, and a check

pub parsed-number : (s : List ℕ) → parsed_number (parse_frame s) ≡ parse_numbers s
unfolding parse_numbers
parsed-number s = go (well_formed s) refl
  where
    go : (b : Bool) → well_formed s ≡ b → parsed_number (parse_frame s) ≡ parse_numbers s
    go true e =
        let w = well-formed s e in
        ap parsed_number (accepted s e) ∙ ap (λ (x : List ℕ). numbered 0 (num 1 6 s ∷ x)) (fields-said s (num 1 5 s) w.low w.high)
        ∙ sym (if-true (well_formed s) _ _ e)
    go false e = ap parsed_number (malformed-back s e) ∙ sym (if-false (well_formed s) _ _ e)

-- the number of a judgement: 0 where nothing is refused
abbrev judged_number : Result (Unit {0}) Refusal → ℕ
judged_number (Ok i) = 0
judged_number (Err r) = number_of r

verdict-number : (j : Result (Unit {0}) Refusal) (m : Message) → checked_number (verdict j m) ≡ numbered (judged_number j) (when eqb (judged_number j) 0 then fields_of m else [])
unfolding verdict when◌then◌else◌
verdict-number (Ok i) m = refl
verdict-number (Err r) m = rw (ne_eqb (number_of r) 0 (number-some r))

module _ (u : Setup) (s : List ℕ) where
  -- the number of what the refusal table says first
  judged-by : (a b d e : Bool) → judged_number (when a then Err NotForUs else when b then Err PastRoom else when d then Err PastLog else when e then Err NotRising else Ok tt) ≡ (when a then 3 else when b then 4 else when d then 5 else when e then 6 else 0)
  unfolding when◌then◌else◌
  judged-by true b d e = refl
  judged-by false true d e = refl
  judged-by false false true e = refl
  judged-by false false false true = refl
  judged-by false false false false = refl

  earned-true : well_formed s ≡ true → judged_number (refusal_of u (num 1 6 s) (carried_of (message_of (num 1 5 s) s)) s) ≡ earned_by u s
  unfolding earned_by refusal_of
  earned-true e =
      let w = well-formed s e in
      let j = judges s (num 1 5 s) w.low w.high in
      judged-by _ _ _ _ ∙ sym (if-false (not (well_formed s)) 2 _ (ap not e) ∙ sym (rw (j.log, j.sender, j.op, j.commit)))

  earned-false : well_formed s ≡ false → earned_by u s ≡ 2
  unfolding earned_by when◌then◌else◌
  earned-false e = rw e

  pub checked-number : checked_number (check_frame u s) ≡ check_numbers u s
  unfolding check_frame check_parsed check_numbers when◌then◌else◌
  checked-number = go (well_formed s) refl
    where
      go : (b : Bool) → well_formed s ≡ b → checked_number (check_frame u s) ≡ check_numbers u s
      go true e =
          let w = well-formed s e in
          let m = message_of (num 1 5 s) s in
          ap (λ (p : Result Addressed Refusal). checked_number (check_parsed u s p)) (accepted s e)
          ∙ verdict-number (refusal_of u (num 1 6 s) (carried_of m) s) m
          ∙ ap (λ (k : ℕ). numbered k (when eqb k 0 then fields_of m else [])) (earned-true e)
          ∙ ap (λ (x : List ℕ). numbered (earned_by u s) (when eqb (earned_by u s) 0 then x else [])) (fields-said s (num 1 5 s) w.low w.high)
      go false e =
          ap (λ (p : Result Addressed Refusal). checked_number (check_parsed u s p)) (malformed-back s e)
          ∙ ap (λ (k : ℕ). numbered k (when eqb k 0 then fields_in (num 1 5 s) s else [])) (sym (earned-false e))

-- ---- the promises

pub parses : (s : List ℕ) (r : Result Addressed Refusal) → r ≡ parse_frame s → Parses s r
parses s r e = record { exact = e; number = ap parsed_number e ∙ parsed-number s; points = rw e (parsed-points s) }

pub checks : (u : Setup) (s : List ℕ) (r : Result Message Refusal) → r ≡ check_frame u s → Checks u s r
checks u s r e = record { exact = e; number = ap checked_number e ∙ checked-number u s; points = rw e (checked-points u s) }
