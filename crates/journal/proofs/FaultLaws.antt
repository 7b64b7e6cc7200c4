-- Laws of a frame's faults.
--     fault-form, fault-result    a frame whose form is bad; one whose form is good
--     form-good, good-form    what a good form says, and that it is all
--     form-first    a good frame has a good form
--     passed        a test that would find a fault has failed
--     frame-there, cut-short    a frame of a good form is there whole; one that isn't has none
--     form-cut      the form of a frame that was cut out of a run
-- Assumes nothing.
use mathlib.Core.Path.{◌≡◌, refl, sym, ap, ◌∙◌}
use mathlib.Core.Bool.{Bool, true, false, not}
use mathlib.Core.List.{List, ◌++◌}
use mathlib.Core.Logic.{⊎_elim}
use Rattle.std.specs.Prelude.{Result, Ok, Err}
use Rattle.std.specs.Result.{result_and}
use Prim.Native.Nat.{ℕ, ◌≤◌, ◌<◌, min}
use native.Mathlib.Omega.{arith}
use lib.Dec.{eqb, ltb}
use lib.ListN.{length, drop, length-append, length-drop}
use lib.Seq.{drop-append-le}
use borrow.Author.Tests.{ltb-false, lt-ltb, le-ltb, eqb-true, eq-eqb, not-false}
use Rattle.numbers.specs.Words.{when◌then◌else◌}
use Rattle.numbers.specs.Numbers.{num}
use Rattle.numbers.proofs.WordLaws.{if-true, if-false}
use Rattle.numbers.proofs.NumberLaws.{num-front, le-or-lt}
use Rattle.entries.specs.Entries.{entry_ok}
use Rattle.model.specs.Book.{outcome}
use Rattle.journal.specs.Journal.{framed_entry, framed_result}
use Rattle.journal.specs.declared.refusal.Fault.{Fault}
use Rattle.journal.specs.declared.refusal.Fault.TheVariants as wrong
use Rattle.journal.specs.Examining.{form_fault, result_fault, fault}

-- two looks at one frame, the first of which found nothing
both_ok : (r q : Result (Unit {0}) Fault) → result_and r q ≡ Ok tt → r ≡ Ok tt
both_ok (Ok _) q e = refl
both_ok (Err f) q e = cc

module _ (op : ℕ) (ts s : List ℕ) where
  pub fault-form : (f : Fault) → form_fault op s ≡ Err f → fault op ts s ≡ Err f
  unfolding fault
  fault-form f e = rw e

  pub fault-result : form_fault op s ≡ Ok tt → fault op ts s ≡ result_fault (outcome ts (framed_entry s)) (framed_result s)
  unfolding fault
  fault-result e = rw e

  -- a good frame has a good form
  pub form-first : fault op ts s ≡ Ok tt → form_fault op s ≡ Ok tt
  unfolding fault
  form-first = both_ok (form_fault op s) _

-- a frame whose form is good
pub record GoodForm (op : ℕ) (s : List ℕ) : Type 0 where
  pub long : 50 ≤ length s
  pub length-is : num 4 0 s ≡ 46
  pub version-is : num 1 4 s ≡ 1
  pub op-is : num 4 5 s ≡ op
  pub entry-ok : entry_ok (drop 9 s) ≡ true

-- a test that would find a fault has failed
pub passed : (b : Bool) (f : Fault) (rest : Result (Unit {0}) Fault) → (when b then Err f else rest) ≡ Ok tt → (b ≡ false) × (rest ≡ Ok tt)
unfolding when◌then◌else◌
passed true f rest e = cc
passed false f rest e = (refl, e)

pub form-good : (op : ℕ) (s : List ℕ) → form_fault op s ≡ Ok tt → GoodForm op s
unfolding form_fault
form-good op s e =
    let a = passed (ltb (length s) 50) wrong.CutShort _ e in
    let b = passed (not (eqb (num 4 0 s) 46)) wrong.Length _ a.1 in
    let c = passed (not (eqb (num 1 4 s) 1)) wrong.Version _ b.1 in
    let d = passed (not (eqb (num 4 5 s) op)) wrong.OpNumber _ c.1 in
    let f = passed (not (entry_ok (drop 9 s))) wrong.Entry (Ok tt) d.1 in
    record {
      long = ltb-false _ _ a.0;
      length-is = eqb-true _ _ (not-false _ b.0);
      version-is = eqb-true _ _ (not-false _ c.0);
      op-is = eqb-true _ _ (not-false _ d.0);
      entry-ok = not-false _ f.0;
    }

pub good-form : (op : ℕ) (s : List ℕ) → GoodForm op s → form_fault op s ≡ Ok tt
unfolding form_fault
good-form op s g =
    if-false _ _ _ (le-ltb (length s) 50 g.long) ∙ if-false _ _ _ (ap not (eq-eqb (num 4 0 s) 46 g.length-is))
    ∙ if-false _ _ _ (ap not (eq-eqb (num 1 4 s) 1 g.version-is)) ∙ if-false _ _ _ (ap not (eq-eqb (num 4 5 s) op g.op-is))
    ∙ if-false _ _ _ (ap not g.entry-ok)

pub frame-there : (op : ℕ) (s : List ℕ) → form_fault op s ≡ Ok tt → 50 ≤ length s
frame-there op s e = (form-good op s e).long

pub cut-short : (op : ℕ) (s : List ℕ) → length s < 50 → form_fault op s ≡ Err wrong.CutShort
unfolding form_fault
cut-short op s h = if-true _ _ _ (lt-ltb (length s) 50 h)

-- ---- a frame cut out of a run

entry-ok-front : (s t : List ℕ) → 32 ≤ length s → entry_ok (s ++ t) ≡ entry_ok s
unfolding entry_ok
entry-ok-front s t h =
    rw (num-front 3 17 s t (omega arith), num-front 1 16 s t (omega arith), num-front 8 24 s t (omega arith))

form-front : (op : ℕ) (c t : List ℕ) → 50 ≤ length c → form_fault op (c ++ t) ≡ form_fault op c
unfolding form_fault
form-front op c t h =
    let r : entry_ok (drop 9 c ++ t) ≡ entry_ok (drop 9 c) = entry-ok-front (drop 9 c) t (simp length-drop (omega arith)) in
    let l : 50 ≤ length (c ++ t) = omega (arith, length-append c t) in
    rw (
      le-ltb (length (c ++ t)) 50 l,
      le-ltb (length c) 50 h,
      num-front 4 0 c t (omega arith),
      num-front 1 4 c t (omega arith),
      num-front 4 5 c t (omega arith),
      drop-append-le 9 c t (omega arith),
      r,
    )

-- of a run the first 50 bytes, or all where it has fewer, show what is wrong with the frame at its front
pub form-cut : (op : ℕ) (r c t : List ℕ) → r ≡ c ++ t → length c ≡ min 50 (length r) → form_fault op c ≡ form_fault op r
form-cut op r c t e l =
    ⊎_elim (λ (h : 50 ≤ length r). sym (form-front op c t (omega arith)) ∙ ap (form_fault op) (sym e))
    (λ (h : length r < 50). cut-short op c (omega arith) ∙ sym (cut-short op r h)) (le-or-lt 50 (length r))
