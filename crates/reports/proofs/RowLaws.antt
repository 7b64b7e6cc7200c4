-- Laws of the rows of reports.
--     rows_end, filled-turn, greatest-turn, latest-turn, chosen-turn    loops from the last row down
--     rows-begin, row_next, row-stop, row_last                                   the look for refusal 1
--     filled-le                                                         no more are there than there are rows
--     chosen-holds, chosen-there                                        what holds of each report holds of the chosen one, which is there
-- Assumes nothing.
use mathlib.Core.Path.{◌≡◌, refl, ap, ◌∙◌, subst}
use mathlib.Core.Bool.{Bool, true, false}
use mathlib.Core.List.{List, [], ◌∷◌}
use mathlib.Core.Logic.{⊎_elim}
use Prim.Native.Nat.{ℕ, suc, ◌+◌, ◌-◌, ◌≤◌, ◌<◌}
use native.Mathlib.Numerals.{add-one}
use native.Mathlib.Omega.{arith}
use lib.ListN.{length, get_or, take, drop, length-take, drop_of_length-le}
use lib.Seq.{drop-cons, get_or-take}
use borrow.Author.Tests.{le-leb, lt-leb, not-true, not-false}
use Rattle.numbers.specs.Words.{when◌then◌else◌}
use Rattle.numbers.proofs.WordLaws.{if-true, if-false, split}
use Rattle.numbers.proofs.NumberLaws.{le-or-lt}
use Rattle.state.specs.Statuses.{no_report}
use Rattle.state.specs.declared.Report.{Report}
use Rattle.reports.specs.Rows.{count_one, greater_commit, later_view, better_of, filled_in, greatest_in, latest_view_in, chosen_from}
use Rattle.state.specs.Sound.{row_ok, reports_ok}
use Rattle.reports.specs.declared.Best.{Best}

-- ---- loops

pub rows_end : (l : List Report) (n : ℕ) → drop n (take n l) ≡ []
rows_end l n = drop_of_length-le (take n l) {i = n} (omega (arith, length-take n l))

rows_next : (l : List Report) (n i : ℕ) → i < n → n ≤ length l → drop i (take n l) ≡ get_or l i no_report ∷ drop (suc i) (take n l)
rows_next l n i h g =
    let e : i < length (take n l) = rw length-take (omega arith) in
    rw (← get_or-take n l i no_report h) (drop-cons (take n l) i no_report e)

-- one turn
module _ (l : List Report) (n i : ℕ) (d : Report) (pos : 0 < i) (le : i ≤ n) (few : n ≤ 7) (seven : length l ≡ 7)
    (row : d ≡ get_or l (i - 1) no_report) where
  rows-down : drop (i - 1) (take n l) ≡ d ∷ drop i (take n l)
  rows-down =
      let j : suc (i - 1) ≡ i = omega arith in
      rw (rows_next l n (i - 1) (omega arith) (omega arith), j, row)

  pub filled-turn : (k r : ℕ) → k ≡ filled_in (drop i (take n l)) → r ≡ count_one d k → r ≡ filled_in (drop (i - 1) (take n l))
  unfolding filled_in
  filled-turn k r p q = q ∙ rw (rows-down, p)

  pub greatest-turn : (k r : ℕ) → k ≡ greatest_in (drop i (take n l)) → r ≡ greater_commit d k → r ≡ greatest_in (drop (i - 1) (take n l))
  unfolding greatest_in
  greatest-turn k r p q = q ∙ rw (rows-down, p)

  pub latest-turn : (k r : ℕ) → k ≡ latest_view_in (drop i (take n l)) → r ≡ later_view d k → r ≡ latest_view_in (drop (i - 1) (take n l))
  unfolding latest_view_in
  latest-turn k r p q = q ∙ rw (rows-down, p)

  pub chosen-turn : (k r : Best) → k ≡ chosen_from i (drop i (take n l)) → r ≡ better_of d (i - 1) k
      → r ≡ chosen_from (i - 1) (drop (i - 1) (take n l))
  unfolding chosen_from
  chosen-turn k r p q =
      let j : suc (i - 1) ≡ i = omega arith in
      q ∙ rw (rows-down, j, p)

-- ---- refusal 1

sub-none : (n i : ℕ) → n ≤ i → n - i ≡ 0
sub-none n i h = omega arith

sub-some : (n i : ℕ) → i < n → n - i ≡ suc (n - suc i)
sub-some n i h = omega arith

-- one turn of the look over all seven rows, from the first up
module _ (room : ℕ) (l : List Report) (n i : ℕ) (lt : i < 7) (seven : length l ≡ 7) (b : Bool) (e : b ≡ row_ok room n i l) where
  row-turn : reports_ok room (n - i) (drop i l) ≡ (when b then reports_ok room (n - (i + 1)) (drop (i + 1) l) else false)
  unfolding row_ok reports_ok
  row-turn =
      ⊎_elim
      (λ h.
      rw (
        drop-cons l i no_report (omega (arith, lt, seven)),
        add-one i,
        sub-none n i h,
        sub-none n (suc i) (omega (arith, h)),
        e ∙ if-true _ _ _ (le-leb n i h),
      ))
      (λ h.
      rw (drop-cons l i no_report (omega (arith, lt, seven)), add-one i, sub-some n i h, e ∙ if-false _ _ _ (lt-leb n i h)))
      (le-or-lt n i)

  pub row_next : b ≡ true → reports_ok room (n - i) (drop i l) ≡ reports_ok room (n - (i + 1)) (drop (i + 1) l)
  row_next t = row-turn ∙ if-true b _ _ t

  pub row-stop : b ≡ false → reports_ok room (n - i) (drop i l) ≡ false
  row-stop t = row-turn ∙ if-false b _ _ t

pub rows-begin : (room n : ℕ) (l : List Report) → reports_ok room n l ≡ reports_ok room (n - 0) (drop 0 l)
rows-begin room n l =
    let e : n ≡ n - 0 = omega arith in
    ap (λ (k : ℕ). reports_ok room k l) e

-- the seventh row is the last
pub row_last : (room : ℕ) (l : List Report) (n : ℕ) → length l ≡ 7 → (b : Bool) → b ≡ row_ok room n 6 l
    → reports_ok room (n - 6) (drop 6 l) ≡ b
unfolding reports_ok
row_last room l n seven true e =
    row_next room l n 6 (omega arith) seven true e refl ∙ rw (drop_of_length-le l {i = 7} (omega (arith, seven)))
row_last room l n seven false e = row-stop room l n 6 (omega arith) seven false e refl

-- ---- among the rows

pub filled-le : (l : List Report) → filled_in l ≤ length l
unfolding filled_in count_one
filled-le [] = omega arith
filled-le (d ∷ ds) =
    let h = filled-le ds in
    split (λ (k : ℕ). k ≤ suc (length ds)) d.there (filled_in ds + 1) (filled_in ds) (λ _. omega arith) (λ _. omega arith)

-- a report that is there, or the best of the others
either : (P : ℕ → Report → Type 0) (d : Report) (i : ℕ) (b : Best) → (d.there ≡ true → P i d) → P b.id b.report
    → P (better_of d i b).id (better_of d i b).report
unfolding better_of
either P d i b h k =
    split Q _ _ _ (λ _. k) λ f.
    let z : P i d = h (not-false d.there f) in
    split Q _ _ _ (λ _. z) λ _.
    split Q _ _ _ (λ _. z) λ _.
    split Q _ _ _ (λ _. k) λ _.
    split Q _ _ _ (λ _. z) λ _. k
  where
    Q : Best → Type 0
    Q x = P x.id x.report

pub chosen-holds : (P : ℕ → Report → Type 0) (i : ℕ) (l : List Report)
    → ((k : ℕ) → k < length l → (get_or l k no_report).there ≡ true → P (i + k) (get_or l k no_report)) → P 0 no_report
    → P (chosen_from i l).id (chosen_from i l).report
unfolding chosen_from
chosen-holds P i [] h z = z
chosen-holds P i (d ∷ ds) h z =
    either P d i (chosen_from (suc i) ds)
    (λ t. subst (λ (j : ℕ). P j d) (omega arith) (h 0 (omega arith) t))
    (chosen-holds P (suc i) ds (λ k lt t. subst (λ (j : ℕ). P j (get_or ds k no_report)) (omega arith) (h (suc k) (omega arith) t)) z)

pub chosen-there : (i : ℕ) (l : List Report) → 0 < filled_in l → (chosen_from i l).report.there ≡ true
unfolding chosen_from filled_in count_one better_of
chosen-there i [] h = absurd (omega arith)
chosen-there i (d ∷ ds) h =
    let r = chosen-there (suc i) ds in
    split Q _ _ _ (λ e. r (subst (λ (k : ℕ). 0 < k) (if-false d.there _ _ (not-true d.there e)) h)) λ e.
    let z : d.there ≡ true = not-false d.there e in
    split Q _ _ _ (λ _. z) λ f.
    let k : b.report.there ≡ true = not-false b.report.there f in
    split Q _ _ _ (λ _. z) λ _.
    split Q _ _ _ (λ _. k) λ _.
    split Q _ _ _ (λ _. z) λ _. k
  where
    b : Best
    b = chosen_from (suc i) ds

    Q : Best → Type 0
    Q x = x.report.there ≡ true
