-- Frames that were made of entries inside their rules are good, and the entries stand in them.
--     framed-entry, framed-rest    a frame read
--     examined-frames, filed-frames        all frames
-- Assumes nothing.
use mathlib.Core.Path.{◌≡◌, refl, sym, ap, ◌∙◌}
use mathlib.Core.Bool.{true, not}
use mathlib.Core.List.{List, [], ◌∷◌, ◌++◌, append_assoc}
use Rattle.std.specs.Prelude.{None, Ok}
use Prim.Native.Nat.{ℕ, zero, suc, ◌+◌, ◌^◌, ◌≤◌, ◌<◌}
use native.Mathlib.Nat.{add-zero}
use native.Mathlib.Omega.{arith}
use lib.ListN.{length, drop, length-append}
use lib.Seq.{drop_at, drop-drop}
use borrow.Author.Tests.{eq-eqb}
use Rattle.numbers.specs.Words.{All}
use Rattle.numbers.specs.Numbers.{big, num}
use Rattle.numbers.specs.Cells.{cells}
use Rattle.numbers.proofs.NumberLaws.{be-big}
use Rattle.numbers.proofs.WordLaws.{if-false}
use Rattle.entries.specs.Entries.{entry_of, entry_ok, encode_entry, EntryFits, Sendable}
use Rattle.entries.specs.declared.Entry.{Entry}
use Rattle.entries.proofs.EntryLaws.{length-encode, entry_of-encode, entry_ok-encode}
use Rattle.fees.specs.Results.{result_of, encode_result, ResultFits}
use Rattle.fees.specs.declared.Outcome.{Outcome}
use Rattle.fees.proofs.ResultLaws.{result-codec}
use Rattle.model.specs.Book.{outcome, totals_after, results_of}
use Rattle.model.proofs.BookLaws.{outcome-code}
use Rattle.journal.specs.Journal.{journal_frame, frames_after, framed_entry, framed_result, filed}
use Rattle.journal.specs.Examining.{result_fault, fault, examined_as, examined_after}
use Rattle.journal.specs.Calls.{all_small}
use Rattle.journal.proofs.FrameLaws.{frame-length}
use Rattle.journal.proofs.FaultLaws.{GoodForm, fault-result, good-form}
use Rattle.journal.proofs.ExamineLaws.{examined-end, examined-good}
use Rattle.journal.proofs.SmallLaws.{small-outcome, small-after}

-- ---- one frame

module _ (op : ℕ) (e : Entry) (o : Outcome) (rest : List ℕ) where
  abbrev s : List ℕ
  s = journal_frame op e o ++ rest

  from-entry : drop 9 s ≡ encode_entry e ++ (encode_result o ++ rest)
  unfolding journal_frame big
  from-entry = append_assoc (encode_entry e) (encode_result o) rest

  from-result : drop 41 s ≡ encode_result o ++ rest
  from-result = sym (drop-drop 32 9 s) ∙ ap (drop 32) from-entry ∙ drop_at (encode_entry e) (encode_result o ++ rest) 32 (length-encode e)

  pub framed-rest : drop 50 s ≡ rest
  framed-rest = drop_at (journal_frame op e o) rest 50 (frame-length op e o)

  pub framed-entry : EntryFits e → framed_entry s ≡ e
  framed-entry f = ap entry_of from-entry ∙ entry_of-encode e (encode_result o ++ rest) f

  framed-result : ResultFits o → framed_result s ≡ o
  framed-result f = ap result_of from-result ∙ result-codec.back o rest f

  pub framed-long : 50 ≤ length s
  framed-long = omega (arith, length-append (journal_frame op e o) rest, frame-length op e o)

  good : Sendable e → op < 2 ^ 32 → GoodForm op s
  unfolding journal_frame big num
  good k h =
      record {
        long = framed-long;
        length-is = refl;
        version-is = refl;
        op-is = be-big 4 op h;
        entry-ok = ap entry_ok from-entry ∙ entry_ok-encode e (encode_result o ++ rest) k.fits ∙ k.ok;
      }

same-result : (o : Outcome) → result_fault o o ≡ Ok tt
unfolding result_fault
same-result o = if-false _ _ _ (ap not (eq-eqb o.code o.code refl)) ∙ if-false _ _ _ (ap not (eq-eqb o.total o.total refl))

frame-good : (op : ℕ) (ts : List ℕ) (e : Entry) (rest : List ℕ) → Sendable e → all_small ts ≡ true → op < 2 ^ 32
    → fault op ts (journal_frame op e (outcome ts e) ++ rest) ≡ Ok tt
frame-good op ts e rest k small h =
    let o = outcome ts e in
    let s = journal_frame op e o ++ rest in
    let c = (outcome-code ts e).1 in
    let t = small-outcome ts small e in
    let f : ResultFits o = record { code = omega arith; total = omega arith } in
    fault-result op ts s (good-form op s (good op e o rest k h))
    ∙ ap (λ (x : Entry). result_fault (outcome ts x) (framed_result s)) (framed-entry op e o rest k.fits)
    ∙ ap (result_fault o) (framed-result op e o rest f) ∙ same-result o

-- ---- all frames

pub examined-frames : (k i : ℕ) (ts : List ℕ) (es : List Entry) → All Sendable es → all_small ts ≡ true → length es ≤ k → i + length es < 2 ^ 32
    → examined_after k i ts (frames_after i es (results_of ts es)) ≡ examined_as (i + length es) None
unfolding frames_after results_of
examined-frames k i ts [] ks small l h = examined-end i ts [] k refl ∙ ap (λ (n : ℕ). examined_as n None) (sym (add-zero i))
examined-frames zero i ts (e ∷ es) ks small l h = absurd (omega arith)
examined-frames (suc k) i ts (e ∷ es) ks small l h =
    let o = outcome ts e in
    let rest = frames_after (suc i) es (results_of (totals_after ts e) es) in
    let s = journal_frame (suc i) e o ++ rest in
    let n : suc i + length es ≡ i + suc (length es) = omega arith in
    examined-good i ts s (omega (arith, framed-long (suc i) e o rest)) k (frame-good (suc i) ts e rest ks.0 small (omega arith))
    ∙ (λ j. examined_after k (suc i) (totals_after ts (framed-entry (suc i) e o rest ks.0.fits j)) (framed-rest (suc i) e o rest j))
    ∙ examined-frames k (suc i) (totals_after ts e) es ks.1 (small-after ts small e) (omega arith) (omega arith)
    ∙ ap (λ (m : ℕ). examined_as m None) n

pub filed-frames : (i : ℕ) (es : List Entry) (os : List Outcome) → length es ≡ length os → All Sendable es
    → filed (length es) (frames_after i es os) ≡ es
unfolding frames_after cells
filed-frames i [] os h ks = refl
filed-frames i (e ∷ es) [] h ks = absurd (omega arith)
filed-frames i (e ∷ es) (o ∷ os) h ks =
    let rest = frames_after (suc i) es os in
    (λ j. framed-entry (suc i) e o rest ks.0.fits j ∷ filed (length es) (framed-rest (suc i) e o rest j))
    ∙ ap (λ (xs : List Entry). e ∷ xs) (filed-frames (suc i) es os (omega arith) ks.1)
