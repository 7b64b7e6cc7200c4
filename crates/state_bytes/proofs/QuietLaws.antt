-- Runs whose reports are all zero bytes.
--     num-zero            a number is 0 exactly where its bytes are
--     zero_turn, zero-stop    the look by eight bytes
--     quiet-passes        such reports pass
--     quiet-reports       and are none
-- Assumes nothing.
use mathlib.Core.Path.{◌≡◌, refl, sym, ap, ◌∙◌}
use mathlib.Core.Logic.{⊎_elim}
use mathlib.Core.Bool.{Bool, true, false, not, false≢true}
use mathlib.Core.List.{List, [], ◌∷◌, ◌++◌}
use Prim.Native.Nat.{ℕ, zero, suc, ◌+◌, ◌*◌, ◌≤◌}
use native.Mathlib.Omega.{arith}
use lib.Dec.{eqb, leb}
use lib.ListN.{length, take, drop, replicate, length-drop}
use lib.Seq.{drop-drop, take-add, length-take-le}
use borrow.Author.Tests.{eqb-true, eq-eqb, ne_eqb, not-true, not-false}
use Rattle.numbers.specs.Words.{when◌then◌else◌, ◌and◌}
use Rattle.numbers.specs.Numbers.{be_from, num}
use Rattle.numbers.specs.Cells.{cells}
use Rattle.numbers.proofs.WordLaws.{if-true, if-false, and-true}
use Rattle.numbers.proofs.NumberLaws.{eq-or-not}
use Rattle.numbers.proofs.CellLaws.{cells-front}
use Rattle.state.specs.Statuses.{no_reports}
use Rattle.state.proofs.SoundLaws.{both}
use Rattle.std.specs.Prelude.{Option, Some, None}
use Rattle.state_bytes.specs.declared.Look.{Look}
use Rattle.state_bytes.specs.declared.Look.TheVariants.{Quiet, Reporting}
use Rattle.state_bytes.specs.Layout.{flag_ok, flag_of, report_in, encode_report, ReportFits, reports_of, all_reports_ok, all_zero, is_quiet, front_ok, state_ok, look_of, looks_quiet}
use Rattle.state_bytes.proofs.LayoutLaws.{report-codec}

from-least : (acc : ℕ) (bs : List ℕ) → acc ≤ be_from acc bs
from-least acc [] = omega arith
from-least acc (b ∷ bs) = omega (arith, from-least (acc * 256 + b) bs)

be-zero : (bs : List ℕ) → eqb (be_from 0 bs) 0 ≡ all_zero bs
unfolding all_zero
be-zero [] = refl
be-zero (b ∷ bs) =
    ⊎_elim
    (λ e. ap (λ (x : ℕ). eqb (be_from (0 * 256 + x) bs) 0) e ∙ be-zero bs ∙ sym (if-true _ _ _ (eq-eqb b 0 e)))
    (λ n. ne_eqb (be_from (0 * 256 + b) bs) 0 (λ z. n (omega (arith, from-least (0 * 256 + b) bs, z))) ∙ sym (if-false _ _ _ (ne_eqb b 0 n)))
    (eq-or-not b 0)

pub num-zero : (k a : ℕ) (s : List ℕ) → eqb (num k a s) 0 ≡ all_zero (take k (drop a s))
unfolding num
num-zero k a s = be-zero (take k (drop a s))

-- ---- the look by eight bytes

one_more : (b p q r : Bool) → q ≡ (when p then r else false) → (when b then q else false) ≡ (when when b then p else false then r else false)
unfolding when◌then◌else◌
one_more true p q r e = e
one_more false p q r e = refl

zero-append : (xs ys : List ℕ) → all_zero (xs ++ ys) ≡ (when all_zero xs then all_zero ys else false)
unfolding all_zero
zero-append [] ys = sym (if-true true _ _ refl)
zero-append (x ∷ xs) ys = one_more (eqb x 0) (all_zero xs) (all_zero (xs ++ ys)) (all_zero ys) (zero-append xs ys)

module _ (s : List ℕ) (p k : ℕ) where
  zero-split : all_zero (take (8 + k) (drop p s)) ≡ (when eqb (num 8 p s) 0 then all_zero (take k (drop (p + 8) s)) else false)
  zero-split =
      ap all_zero (take-add 8 k (drop p s)) ∙ zero-append (take 8 (drop p s)) (take k (drop 8 (drop p s)))
      ∙ ap (λ (b : Bool). when b then all_zero (take k (drop 8 (drop p s))) else false) (sym (num-zero 8 p s))
      ∙ ap (λ (r : List ℕ). when eqb (num 8 p s) 0 then all_zero (take k r) else false) (drop-drop 8 p s)

  pub zero_turn : num 8 p s ≡ 0 → all_zero (take (8 + k) (drop p s)) ≡ all_zero (take k (drop (p + 8) s))
  zero_turn e = zero-split ∙ if-true _ _ _ (ap (λ (x : ℕ). eqb x 0) e)

  pub zero-stop : (num 8 p s ≡ 0 → ⊥) → all_zero (take (8 + k) (drop p s)) ≡ false
  zero-stop n = zero-split ∙ if-false _ _ _ (ne_eqb _ 0 n)

-- ---- what such reports say

zeros : (bs : List ℕ) → all_zero bs ≡ true → bs ≡ replicate (length bs) 0
unfolding all_zero
zeros [] h = refl
zeros (b ∷ bs) h =
    let p = both (eqb b 0) (all_zero bs) h in
    λ i. eqb-true b 0 p.0 i ∷ zeros bs p.1 i

halves : (j k : ℕ) (l : List ℕ) → all_zero (take (j + k) l) ≡ true → (all_zero (take j l) ≡ true) × (all_zero (take k (drop j l)) ≡ true)
halves j k l h = both _ _ (sym (zero-append (take j l) (take k (drop j l))) ∙ sym (ap all_zero (take-add j k l)) ∙ h)

zero_flag : (a : ℕ) (l : List ℕ) → all_zero (take 1 (drop a l)) ≡ true → flag_ok (num 1 a l) ≡ true
unfolding flag_ok
zero_flag a l h = ap (λ (x : ℕ). leb x 1) (eqb-true (num 1 a l) 0 (num-zero 1 a l ∙ h))

rows_pass : (k : ℕ) (l : List ℕ) → all_zero (take (14 * k) l) ≡ true → all_reports_ok k l ≡ true
unfolding all_reports_ok
rows_pass zero l h = refl
rows_pass (suc k) l h =
    let e : 14 + 14 * k ≡ 14 * suc k = omega arith in
    let p = halves 14 (14 * k) l (ap (λ (n : ℕ). all_zero (take n l)) e ∙ h) in
    let q = halves 1 13 l p.0 in
    let r = halves 1 12 (drop 1 l) q.1 in
    and-true _ _ (zero_flag 0 l q.0) (and-true _ _ (zero_flag 1 l r.0) (rows_pass k (drop 14 l) p.1))

pub quiet-passes : (s : List ℕ) → is_quiet s ≡ true → all_reports_ok 7 (drop 48 s) ≡ true
unfolding is_quiet
quiet-passes s h = rows_pass 7 (drop 48 s) h

none_in : cells 14 report_in 7 (replicate 98 0 ++ []) ≡ no_reports.rows
unfolding cells report_in num flag_of
none_in = refl

pub quiet-reports : (s : List ℕ) → 154 ≤ length s → is_quiet s ≡ true → reports_of (drop 48 s) ≡ no_reports
unfolding is_quiet reports_of
quiet-reports s l h =
    let n : length (take 98 (drop 48 s)) ≡ 98 = length-take-le 98 (drop 48 s) (rw length-drop (omega (arith, l))) in
    let z : take 98 (drop 48 s) ≡ replicate 98 0 = zeros (take 98 (drop 48 s)) h ∙ ap (λ (k : ℕ). replicate k 0) n in
    let e : cells 14 report_in 7 (drop 48 s) ≡ no_reports.rows =
    sym (cells-front 14 report_in encode_report ReportFits report-codec 7 (drop 48 s) [] (rw length-drop (omega (arith, l))))
    ∙ ap (λ (r : List ℕ). cells 14 report_in 7 (r ++ [])) z ∙ none_in in
    λ i. record { rows = e i }

-- ---- a look over a run

none_bad : (a b : Bool) → (when not a then None else when b then Some Quiet else Some Reporting) ≡ None → a ≡ false
unfolding when◌then◌else◌
none_bad true true n = absurd (cc n)
none_bad true false n = absurd (cc n)
none_bad false b n = refl

some-ok : (a b : Bool) {x : Look} → (when not a then None else when b then Some Quiet else Some Reporting) ≡ Some x → a ≡ true
unfolding when◌then◌else◌
some-ok true b n = refl
some-ok false b n = absurd (cc n)

quiet_some : (a b : Bool) (x : Look) → looks_quiet x ≡ true → (when not a then None else when b then Some Quiet else Some Reporting) ≡ Some x → b ≡ true
unfolding when◌then◌else◌
quiet_some a true x q n = refl
quiet_some true false Quiet q n = absurd (cc n)
quiet_some true false Reporting q n = absurd (false≢true q)
quiet_some false false x q n = absurd (cc n)

module _ (s : List ℕ) {f : Bool} (p : f ≡ front_ok s) where
  pub look_none : not f ≡ true → None ≡ look_of s
  unfolding look_of state_ok when◌then◌else◌ ◌and◌
  look_none h = rw (← p, not-true f h)

  module _ (h : not f ≡ false) {q : Bool} (r : q ≡ is_quiet s) where
    pub look-quiet : q ≡ true → Some Quiet ≡ look_of s
    unfolding look_of state_ok when◌then◌else◌ ◌and◌
    look-quiet e = rw (← p, not-false f h, ← r, e, quiet-passes s (sym r ∙ e))

    module _ (e : q ≡ false) {o : Bool} (t : o ≡ all_reports_ok 7 (drop 48 s)) where
      pub look-bad : not o ≡ true → None ≡ look_of s
      unfolding look_of state_ok when◌then◌else◌ ◌and◌
      look-bad n = rw (← p, not-false f h, ← t, not-true o n)

      pub look-reports : not o ≡ false → Some Reporting ≡ look_of s
      unfolding look_of state_ok when◌then◌else◌ ◌and◌
      look-reports n = rw (← p, not-false f h, ← t, not-false o n, ← r, e)

-- what it tells
module _ (s : List ℕ) {l : Option Look} (e : l ≡ look_of s) where
  pub looks-none : l ≡ None → state_ok s ≡ false
  unfolding look_of
  looks-none n = none_bad (state_ok s) (is_quiet s) (sym e ∙ n)

  pub looks-ok : {x : Look} → l ≡ Some x → state_ok s ≡ true
  unfolding look_of
  looks-ok n = some-ok (state_ok s) (is_quiet s) (sym e ∙ n)

  pub looks-quiet : {x : Look} → l ≡ Some x → looks_quiet x ≡ true → is_quiet s ≡ true
  unfolding look_of
  looks-quiet {x} n q = quiet_some (state_ok s) (is_quiet s) x q (sym e ∙ n)
