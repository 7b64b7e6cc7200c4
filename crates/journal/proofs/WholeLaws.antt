-- A file whose every frame is good is the journal of the entries that stand in it.
--     frame-whole     a good frame is made of its own entry and result
--     Whole, whole    all frames, from any op number and any totals on
-- Assumes nothing.
use mathlib.Core.Path.{◌≡◌, refl, sym, ap, ◌∙◌}
use mathlib.Core.Bool.{Bool, true, false}
use mathlib.Core.List.{List, [], ◌∷◌, ◌++◌}
use Rattle.std.specs.Prelude.{None, Result, Ok, Err}
use Rattle.std.proofs.lemmas.Option.{none-some}
use Prim.Native.Nat.{ℕ, zero, suc, ◌+◌, ◌≤◌, ◌<◌}
use native.Mathlib.Nat.{add-zero}
use native.Mathlib.Omega.{arith}
use lib.Dec.{eqb}
use lib.ListN.{length, take, drop, length-drop, take-append-drop}
use lib.Seq.{take-add, drop-drop}
use borrow.Author.Tests.{eqb-true, eqb-false, not-false}
use Rattle.numbers.specs.Words.{All}
use Rattle.numbers.specs.Numbers.{big, Bytes}
use Rattle.numbers.specs.Cells.{cells}
use Rattle.numbers.proofs.NumberLaws.{big-num, drop-bytes}
use Rattle.entries.specs.Entries.{Sendable}
use Rattle.entries.proofs.EntryLaws.{encode-decode}
use Rattle.entries.proofs.SendableLaws.{ok-entry, entry-fits}
use Rattle.fees.specs.Results.{result_of, encode_result}
use Rattle.fees.specs.declared.Outcome.{Outcome}
use Rattle.model.specs.Book.{outcome, totals_after, results_of}
use Rattle.journal.specs.Journal.{journal_frame, frames_after, framed_entry, framed_result, filed}
use Rattle.journal.specs.declared.refusal.Fault.{Fault}
use Rattle.journal.specs.declared.refusal.Fault.TheVariants as wrong
use Rattle.journal.specs.Examining.{result_fault, fault, examined_after}
use Rattle.journal.specs.declared.Examined.{Examined}
use Rattle.journal.proofs.FaultLaws.{GoodForm, form-good, form-first, fault-result, passed}
use Rattle.journal.proofs.ExamineLaws.{examined-end, examined-past, examined-bad, examined-good}

-- ---- one frame

-- n bytes from place a on, and m behind them
part : (a n m : ℕ) (s : List ℕ) → take (n + m) (drop a s) ≡ take n (drop a s) ++ take m (drop (a + n) s)
part a n m s = take-add n m (drop a s) ∙ ap (λ (t : List ℕ). take n (drop a s) ++ take m t) (drop-drop n a s)

result-whole : (s : List ℕ) → Bytes s → 9 ≤ length s → encode_result (result_of s) ≡ take 9 s
unfolding encode_result result_of
result-whole s b h =
    (λ i. big-num 1 0 s b (omega arith) i ++ big-num 8 1 s b (omega arith) i) ∙ sym (take-add 1 8 s)

pub frame-whole : (op : ℕ) (s : List ℕ) → Bytes s → GoodForm op s → journal_frame op (framed_entry s) (framed_result s) ≡ take 50 s
unfolding journal_frame big encode_result
frame-whole op s b g =
    let n : 32 ≤ length (drop 9 s) = simp length-drop (omega (arith, g.long)) in
    let m : 9 ≤ length (drop 41 s) = simp length-drop (omega (arith, g.long)) in
    let l = ap (big 4) (sym g.length-is) ∙ big-num 4 0 s b (omega (arith, g.long)) in
    let v = ap (big 1) (sym g.version-is) ∙ big-num 1 4 s b (omega (arith, g.long)) in
    let o = ap (big 4) (sym g.op-is) ∙ big-num 4 5 s b (omega (arith, g.long)) in
    let e = encode-decode (drop 9 s) (drop-bytes 9 s b) n g.entry-ok in
    let r = result-whole (drop 41 s) (drop-bytes 41 s b) m in
    (λ i. l i ++ (v i ++ (o i ++ (e i ++ r i))))
    ∙ sym
    (part 0 4 46 s
    ∙ ap (λ (t : List ℕ). take 4 s ++ t)
    (part 4 1 45 s ∙ ap (λ (t : List ℕ). take 1 (drop 4 s) ++ t) (part 5 4 41 s ∙ ap (λ (t : List ℕ). take 4 (drop 5 s) ++ t) (part 9 32 9 s))))

-- ---- all frames

pub record Whole (k i : ℕ) (ts s : List ℕ) : Type 0 where
  pub m : ℕ
  pub count : (examined_after k i ts s).frames ≡ i + m
  pub few : m ≤ k
  pub keeps : All Sendable (filed m s)
  pub is : s ≡ frames_after i (filed m s) (results_of ts (filed m s))

nothing : (s : List ℕ) → length s ≡ 0 → s ≡ []
nothing [] h = refl
nothing (x ∷ s) h = absurd (omega arith)

same-result : (o r : Outcome) → result_fault o r ≡ Ok tt → r ≡ o
unfolding result_fault
same-result o r e =
    let c = passed _ wrong.Outcome _ e in
    let t = passed _ wrong.Total (Ok tt) c.1 in
    λ i. record { code = eqb-true r.code o.code (not-false _ c.0) i; total = eqb-true r.total o.total (not-false _ t.0) i }

-- nothing is left
ended : (k i : ℕ) (ts s : List ℕ) → length s ≡ 0 → Whole k i ts s
unfolding frames_after cells
ended k i ts s e =
    record {
      m = 0;
      count = ap (λ (j : Examined). j.frames) (examined-end i ts s k e) ∙ sym (add-zero i);
      few = omega arith;
      keeps = tt;
      is = nothing s e;
    }

-- a good frame, and what follows it
module _ (k i : ℕ) (ts s : List ℕ) (b : Bytes s) (more : 0 < length s) (z : fault (suc i) ts s ≡ Ok tt)
    (w : Whole k (suc i) (totals_after ts (framed_entry s)) (drop 50 s)) where
  form : GoodForm (suc i) s
  form = form-good (suc i) s (form-first (suc i) ts s z)

  framed : Sendable (framed_entry s)
  framed = record { fits = entry-fits (drop 9 s) (drop-bytes 9 s b); ok = ok-entry (drop 9 s) form.entry-ok }

  given : framed_result s ≡ outcome ts (framed_entry s)
  given = same-result (outcome ts (framed_entry s)) (framed_result s) (sym (fault-result (suc i) ts s (form-first (suc i) ts s z)) ∙ z)

  one_more : Whole (suc k) i ts s
  unfolding frames_after results_of cells
  one_more =
      record {
        m = suc w.m;
        count = ap (λ (j : Examined). j.frames) (examined-good i ts s more k z) ∙ w.count ∙ omega arith;
        few = omega (arith, w.few);
        keeps = (framed, w.keeps);
        is =
            sym (take-append-drop 50 s)
            ∙ (λ j. (sym (frame-whole (suc i) s b form) ∙ ap (journal_frame (suc i) (framed_entry s)) given) j ++ w.is j);
      }

-- what is left of a file, and what is left behind its first frame
module _ (i : ℕ) (ts s : List ℕ) (b : Bytes s) where
  some : eqb (length s) 0 ≡ false → 0 < length s
  some h = omega (arith, eqb-false (length s) 0 h)

  no_more : (e : Bool) → eqb (length s) 0 ≡ e → (examined_after 0 i ts s).fault ≡ None → Whole 0 i ts s
  no_more true h f = ended 0 i ts s (eqb-true (length s) 0 h)
  no_more false h f = absurd (none-some wrong.PastLast (sym f ∙ ap (λ (j : Examined). j.fault) (examined-past i ts s (some h))))

  module _ (k : ℕ) (f : (examined_after (suc k) i ts s).fault ≡ None)
      (then : (examined_after k (suc i) (totals_after ts (framed_entry s)) (drop 50 s)).fault ≡ None → Whole k (suc i) (totals_after ts (framed_entry s)) (drop 50 s)) where
    first : (g : Result (Unit {0}) Fault) → 0 < length s → fault (suc i) ts s ≡ g → Whole (suc k) i ts s
    first (Ok _) l z = one_more k i ts s b l z (then (sym (ap (λ (j : Examined). j.fault) (examined-good i ts s l k z)) ∙ f))
    first (Err g) l n = absurd (none-some g (sym f ∙ ap (λ (j : Examined). j.fault) (examined-bad i ts s l k g n)))

    turn : (e : Bool) → eqb (length s) 0 ≡ e → Whole (suc k) i ts s
    turn true h = ended (suc k) i ts s (eqb-true (length s) 0 h)
    turn false h = first (fault (suc i) ts s) (some h) refl

pub whole : (k i : ℕ) (ts s : List ℕ) → Bytes s → (examined_after k i ts s).fault ≡ None → Whole k i ts s
whole zero i ts s b f = no_more i ts s b (eqb (length s) 0) refl f
whole (suc k) i ts s b f =
    turn i ts s b k f (whole k (suc i) (totals_after ts (framed_entry s)) (drop 50 s) (drop-bytes 50 s b)) (eqb (length s) 0) refl
