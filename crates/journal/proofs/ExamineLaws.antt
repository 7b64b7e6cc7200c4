-- Laws of examining a file, frame by frame.
--     examined-end, examined-past, examined-bad, examined-good    a turn: nothing follows; past the last frame that may come; a bad frame; a good one
--     stops-past, stops-bad, goes_on                      the last three, by places
-- Assumes nothing.
use mathlib.Core.Path.{◌≡◌, sym, ap, ◌∙◌}
use mathlib.Core.Bool.{false}
use mathlib.Core.List.{List}
use Rattle.std.specs.Prelude.{Some, None, Ok, Err}
use Prim.Native.Nat.{ℕ, zero, suc, ◌+◌, ◌-◌, ◌*◌, ◌≤◌, ◌<◌}
use native.Mathlib.Numerals.{add-one}
use native.Mathlib.Omega.{arith}
use lib.Dec.{eqb}
use lib.ListN.{length, drop, length-drop}
use lib.Seq.{drop-drop}
use borrow.Author.Tests.{eq-eqb, ne_eqb}
use Rattle.numbers.proofs.WordLaws.{if-true, if-false}
use Rattle.model.specs.Book.{totals_after}
use Rattle.journal.specs.Journal.{framed_entry}
use Rattle.journal.specs.declared.refusal.Fault.{Fault}
use Rattle.journal.specs.declared.refusal.Fault.TheVariants as wrong
use Rattle.journal.specs.Examining.{fault, examined_as, examined_after}

module _ (i : ℕ) (ts s : List ℕ) where
  pub examined-end : (k : ℕ) → length s ≡ 0 → examined_after k i ts s ≡ examined_as i None
  unfolding examined_after
  examined-end zero e = if-true _ _ _ (eq-eqb (length s) 0 e)
  examined-end (suc k) e = if-true _ _ _ (eq-eqb (length s) 0 e)

  module _ (more : 0 < length s) where
    not_end : eqb (length s) 0 ≡ false
    not_end = ne_eqb (length s) 0 (λ e. omega arith)

    pub examined-past : examined_after 0 i ts s ≡ examined_as i (Some wrong.PastLast)
    unfolding examined_after
    examined-past = if-false _ _ _ not_end

    pub examined-bad : (k : ℕ) (f : Fault) → fault (suc i) ts s ≡ Err f → examined_after (suc k) i ts s ≡ examined_as i (Some f)
    unfolding examined_after
    examined-bad k f e = if-false _ _ _ not_end ∙ rw e

    pub examined-good : (k : ℕ) → fault (suc i) ts s ≡ Ok tt
        → examined_after (suc k) i ts s ≡ examined_after k (suc i) (totals_after ts (framed_entry s)) (drop 50 s)
    unfolding examined_after
    examined-good k e = if-false _ _ _ not_end ∙ rw e

-- by places, i frames of at most n being good
module _ (n i : ℕ) (ts file : List ℕ) (more : 50 * i < length file) where
  left : 0 < length (drop (50 * i) file)
  left = simp length-drop (omega arith)

  pub stops-past : n ≤ i → examined_after (n - i) i ts (drop (50 * i) file) ≡ examined_as i (Some wrong.PastLast)
  stops-past h =
      let e : n - i ≡ 0 = omega arith in
      ap (λ (k : ℕ). examined_after k i ts (drop (50 * i) file)) e ∙ examined-past i ts (drop (50 * i) file) left

  module _ (room : i < n) where
    one_more : n - i ≡ suc (n - (i + 1))
    one_more = omega arith

    pub stops-bad : (f : Fault) → fault (i + 1) ts (drop (50 * i) file) ≡ Err f → examined_after (n - i) i ts (drop (50 * i) file) ≡ examined_as i (Some f)
    stops-bad f p =
        let q : fault (suc i) ts (drop (50 * i) file) ≡ Err f = ap (λ (k : ℕ). fault k ts (drop (50 * i) file)) (sym (add-one i)) ∙ p in
        ap (λ (k : ℕ). examined_after k i ts (drop (50 * i) file)) one_more
        ∙ examined-bad i ts (drop (50 * i) file) left (n - (i + 1)) f q

    pub goes_on : (us : List ℕ) → fault (i + 1) ts (drop (50 * i) file) ≡ Ok tt → us ≡ totals_after ts (framed_entry (drop (50 * i) file))
        → examined_after (n - i) i ts (drop (50 * i) file) ≡ examined_after (n - (i + 1)) (i + 1) us (drop (50 * (i + 1)) file)
    goes_on us p r =
        let q : fault (suc i) ts (drop (50 * i) file) ≡ Ok tt = ap (λ (k : ℕ). fault k ts (drop (50 * i) file)) (sym (add-one i)) ∙ p in
        let d : 50 * i + 50 ≡ 50 * (i + 1) = omega arith in
        ap (λ (k : ℕ). examined_after k i ts (drop (50 * i) file)) one_more
        ∙ examined-good i ts (drop (50 * i) file) left (n - (i + 1)) q
        ∙ rw (← r, drop-drop, d, add-one)
