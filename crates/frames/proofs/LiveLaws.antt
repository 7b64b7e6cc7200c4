-- The rule of a frame never gets stuck.
--     some_fits_lem, fits-some, fits_low     a length that some kind has
--     from-most, count-lt                where entries begin, and how many a length leaves room for
--     lives-frame                        at each place some byte may come
-- Assumes nothing.
use mathlib.Core.Path.{◌≡◌, refl, sym}
use mathlib.Core.Bool.{Bool, true, false, false≢true}
use mathlib.Core.Logic.{◌⊎◌, inl, inr, ⊎_elim}
use Prim.Native.Nat.{ℕ, zero, suc, ◌+◌, ◌-◌, ◌*◌, ◌/◌, ◌≤◌, ◌<◌}
use native.Mathlib.Omega.{arith}
use borrow.Author.Tests.{eqb-true, eq-eqb}
use lib.Dec.{lit<, lit≤, eqb}
use Rattle.numbers.specs.Words.{when◌then◌else◌, ◌and◌, ◌or◌}
use Rattle.numbers.specs.Numbers.{within}
use Rattle.numbers.proofs.WordLaws.{and_both, split}
use Rattle.numbers.proofs.NumberLaws.{within_both, eq-or-not}
use Rattle.frames.proofs.KindLaws.{each-kind}
use Rattle.offsets.specs.Rules.{Rule, end, byte, free, between}
use Rattle.frames.specs.FrameRules.{carries_log, entries_from, count_for, fits, some_fits, cents_rule, entry_rule, entries_rule, log_rule, part_rule, state_rule, bound_from, bound_rule, body_rule, kind_rule, frame_rule}
use Rattle.offsets.proofs.RuleLaws.{Lives}
use Rattle.offsets.proofs.FieldLaws.{lives-end, lives-free, lives-between, lives-just}

-- ---- tests of the kinds

bool_cases : (a : Bool) → (a ≡ true) ⊎ (a ≡ false)
bool_cases true = inl refl
bool_cases false = inr refl

or-last : (a : Bool) → (a or true) ≡ true
unfolding ◌or◌
or-last true = refl
or-last false = refl

or-true : (a b : Bool) → (a or b) ≡ true → (a ≡ false → b ≡ true)
unfolding ◌or◌
or-true true b h e = absurd (false≢true (sym e))
or-true false b h e = h

pub some_fits_lem : (m n : ℕ) → some_fits m n ≡ true → (k : ℕ) × (k ≤ m) × (fits n k ≡ true)
unfolding some_fits
some_fits_lem zero n h = absurd (false≢true h)
some_fits_lem (suc m) n h =
    ⊎_elim (λ e. (suc m, omega arith, e)) (λ e. let x = some_fits_lem m n (or-true (fits n (suc m)) (some_fits m n) h e) in (x.0, omega (arith, x.1), x.2)) (bool_cases (fits n (suc m)))

pub fits-some : (m n k : ℕ) → 1 ≤ k → k ≤ m → fits n k ≡ true → some_fits m n ≡ true
unfolding some_fits ◌or◌
fits-some zero n k l h e = absurd (omega arith)
fits-some (suc m) n k l h e =
    ⊎_elim (λ q. let f : fits n (suc m) ≡ true = rw q at e in rw f)
    (λ q. rw (fits-some m n k l (omega arith) e) (or-last (fits n (suc m)))) (eq-or-not k (suc m))

pub fits_low : (n k : ℕ) → fits n k ≡ true → (1 ≤ k) × (k ≤ 11) × (n + 4 ≡ entries_from k n + 32 * count_for k n)
unfolding fits
fits_low n k h =
    let p = and_both (within 1 11 k) (eqb (n + 4) (entries_from k n + 32 * count_for k n)) h in
    let q = within_both 1 11 k p.0 in
    (q.0, q.1, eqb-true (n + 4) (entries_from k n + 32 * count_for k n) p.1)

-- no entries begin past place 29
pub from-most : (k n : ℕ) → 1 ≤ k → k ≤ 11 → entries_from k n ≤ 29
unfolding entries_from when◌then◌else◌
from-most k n =
    each-kind (λ k. entries_from k n ≤ 29)
    (record {
      k1 = lit≤ tt;
      k2 = lit≤ tt;
      k3 = lit≤ tt;
      k4 = lit≤ tt;
      k5 = lit≤ tt;
      k6 = lit≤ tt;
      k7 = lit≤ tt;
      k8 = lit≤ tt;
      k9 = lit≤ tt;
      k10 = lit≤ tt;
      k11 = split (λ (x : ℕ). x ≤ 29) (eqb n 17) 21 29 (λ _. lit≤ tt) (λ _. lit≤ tt);
    })
    k

-- every beginning of a length can go on to one of a StartView
fits-start-view : (x : ℕ) → fits (x * 256 + 15) 9 ≡ true
unfolding fits within entries_from count_for carries_log when◌then◌else◌ ◌and◌ ◌or◌
fits-start-view x = eq-eqb (x * 256 + 15 + 4) (19 + 32 * ((x * 256 + 15 + 4 - 19) / 32)) (omega arith)

pub count-lt : (k n : ℕ) → n < 4294967296 → count_for k n < 4294967296
unfolding count_for
count-lt k n h =
    split (λ (c : ℕ). c < 4294967296) (eqb k 1) 1 (when eqb k 2 then 1 else when carries_log k then (n + 4 - entries_from k n) / 32 else 0) (λ e. lit< tt) (λ e.
    split (λ (c : ℕ). c < 4294967296) (eqb k 2) 1 (when carries_log k then (n + 4 - entries_from k n) / 32 else 0) (λ e. lit< tt) (λ e.
    split (λ (c : ℕ). c < 4294967296) (carries_log k) ((n + 4 - entries_from k n) / 32) 0 (λ e. omega arith) (λ e. lit< tt)))

-- ---- it never gets stuck

lives-cents : (k : ℕ) (r : Rule) → Lives r → Lives (cents_rule k r)
unfolding cents_rule
lives-cents k r l =
    split Lives (eqb k 3) (between 8 0 0 0 (λ x. r)) (between 8 0 1 1000000 (λ x. r))
    (λ e. lives-just 8 0 r (lit< tt) l) (λ e. lives-between 8 1 1000000 (λ x. r) (lit≤ tt) (lit< tt) (λ x a b. l))

lives-entries : (c : ℕ) → Lives (entries_rule c)
unfolding entries_rule entry_rule
lives-entries zero = lives-end
lives-entries (suc c) =
    lives-free 16 (between 1 0 1 3 (λ k. between 3 0 0 0 (λ x. free 4 (cents_rule k (entries_rule c)))))
    (lives-between 1 1 3 (λ k. between 3 0 0 0 (λ x. free 4 (cents_rule k (entries_rule c)))) (lit≤ tt) (lit< tt) (λ k a b.
    lives-just 3 0 (free 4 (cents_rule k (entries_rule c))) (lit< tt)
    (lives-free 4 (cents_rule k (entries_rule c)) (lives-cents k (entries_rule c) (lives-entries c)))))

lives-log : (c : ℕ) → c < 4294967296 → Lives (log_rule c)
unfolding log_rule
lives-log c h = lives-just 4 c (free 4 (entries_rule c)) h (lives-free 4 (entries_rule c) (lives-entries c))

lives-part : (c : ℕ) → c < 4294967296 → Lives (part_rule c)
unfolding part_rule
lives-part c h =
    lives-between 4 0 (4294967295 - c) (λ a. between 4 0 (a + c) (a + c) (λ x. free 4 (entries_rule c))) (omega arith) (lit< tt)
    (λ a p q. lives-just 4 (a + c) (free 4 (entries_rule c)) (omega arith) (lives-free 4 (entries_rule c) (lives-entries c)))

lives-state : (n c : ℕ) → c < 4294967296 → Lives (state_rule n c)
unfolding state_rule
lives-state n c h =
    split Lives (eqb n 17) (between 1 0 0 0 (λ x. end)) (between 1 0 1 1 (λ x. log_rule c))
    (λ e. lives-just 1 0 end (lit< tt) lives-end) (λ e. lives-just 1 1 (log_rule c) (lit< tt) (lives-log c h))

lives-body : (n k : ℕ) → n < 4294967296 → Lives (body_rule n k)
unfolding body_rule bound_rule
lives-body n k h =
    let c = count_for k n in
    let g = count-lt k n h in
    lives-free (bound_from k - 6) (bound_rule n k)
    (split Lives (eqb k 6) (part_rule c) (when eqb k 8 then log_rule c else when eqb k 9 then log_rule c else when eqb k 11 then state_rule n c else entries_rule c)
    (λ e. lives-part c g) (λ e.
    split Lives (eqb k 8) (log_rule c) (when eqb k 9 then log_rule c else when eqb k 11 then state_rule n c else entries_rule c) (λ e. lives-log c g) (λ e.
    split Lives (eqb k 9) (log_rule c) (when eqb k 11 then state_rule n c else entries_rule c) (λ e. lives-log c g) (λ e.
    split Lives (eqb k 11) (state_rule n c) (entries_rule c) (λ e. lives-state n c g) (λ e. lives-entries c)))))

lives-kind : (n : ℕ) → n < 4294967296 → some_fits 11 n ≡ true → Lives (kind_rule n)
unfolding kind_rule Lives
lives-kind n h e =
    let x = some_fits_lem 11 n e in
    lives-just 1 1 (byte (fits n) (body_rule n)) (lit< tt) ((x.0, omega (arith, x.1), x.2), λ k a b. lives-body n k h)

pub lives-frame : Lives frame_rule
unfolding frame_rule Lives
lives-frame =
    lives-between 3 0 16777215 (λ x. byte (λ b. some_fits 11 (x * 256 + b)) (λ b. kind_rule (x * 256 + b))) (lit≤ tt) (lit< tt)
    (λ x p q. ((15, lit< tt, fits-some 11 (x * 256 + 15) 9 (lit≤ tt) (lit≤ tt) (fits-start-view x)), λ b h e. lives-kind (x * 256 + b) (omega arith) e))
