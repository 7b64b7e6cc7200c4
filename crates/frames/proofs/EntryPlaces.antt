-- The bytes that keep the rules of entries are entries that keep the entry rules, by places of a frame.
--     entry_at, entries_at     what the bytes from place a on say
--     at_entry, at-entries     and how to see that they keep the rules
-- Assumes nothing.
use mathlib.Core.Path.{◌≡◌, refl}
use mathlib.Core.Bool.{true, false≢true}
use mathlib.Core.Logic.{⊎_elim}
use mathlib.Core.List.{List}
use Prim.Native.Nat.{ℕ, zero, suc, ◌+◌, ◌*◌, ◌≤◌}
use native.Mathlib.Omega.{arith}
use borrow.Author.Tests.{eqb-true, eq-eqb, ne_eqb}
use lib.Dec.{lit<, eqb}
use lib.ListN.{length, drop}
use lib.Seq.{drop-drop}
use Rattle.numbers.specs.Words.{when◌then◌else◌, ◌and◌}
use Rattle.numbers.specs.Numbers.{num, Bytes}
use Rattle.numbers.proofs.WordLaws.{and_both, and-true}
use Rattle.numbers.proofs.NumberLaws.{within_both, both-within, num-drop, eq-or-not}
use Rattle.entries.specs.Entries.{operation_ok, entry_ok, entries_ok}
use Rattle.offsets.specs.Rules.{Rule, takes, free, between}
use Rattle.offsets.proofs.PlaceLaws.{end-at, at-end, free-at, at-free, between-at, at-between, just-at, at-just}
use Rattle.frames.specs.FrameRules.{cents_rule, entry_rule, entries_rule}

cents-at : (k : ℕ) (r : Rule) (a : ℕ) (s : List ℕ) → 1 ≤ k → k ≤ 3 → a ≤ length s → takes (cents_rule k r) (drop a s) ≡ true
    → (a + 8 ≤ length s) × (operation_ok k (num 8 a s) ≡ true) × (takes r (drop (a + 8) s) ≡ true)
unfolding cents_rule operation_ok when◌then◌else◌
cents-at k r a s x y l h =
    ⊎_elim (λ e. let p = between-at 8 1 1000000 (λ v. r) a s (lit< tt) l (rw e at h) in (p.long, rw e (both-within 1 1000000 (num 8 a s) p.least p.most), p.rest)) (λ n1.
    ⊎_elim (λ e. let p = between-at 8 1 1000000 (λ v. r) a s (lit< tt) l (rw e at h) in (p.long, rw e (both-within 1 1000000 (num 8 a s) p.least p.most), p.rest)) (λ n2.
    let e : k ≡ 3 = omega arith in
    let p = just-at 8 0 r a s (lit< tt) l (rw e at h) in (p.0, rw e (eq-eqb (num 8 a s) 0 p.1), p.2))
    (eq-or-not k 2)) (eq-or-not k 1)

at-cents : (k : ℕ) (r : Rule) (a : ℕ) (s : List ℕ) → Bytes s → a + 8 ≤ length s → operation_ok k (num 8 a s) ≡ true → takes r (drop (a + 8) s) ≡ true
    → (1 ≤ k) × (k ≤ 3) × (takes (cents_rule k r) (drop a s) ≡ true)
unfolding cents_rule operation_ok when◌then◌else◌
at-cents k r a s b l o h =
    ⊎_elim (λ e. let q = within_both 1 1000000 (num 8 a s) (rw e at o) in (omega arith, omega arith, rw e (at-between 8 1 1000000 (λ v. r) a s b l q.0 q.1 h))) (λ n1.
    ⊎_elim (λ e. let q = within_both 1 1000000 (num 8 a s) (rw e at o) in (omega arith, omega arith, rw e (at-between 8 1 1000000 (λ v. r) a s b l q.0 q.1 h))) (λ n2.
    ⊎_elim (λ e. (omega arith, omega arith, rw e (at-just 8 0 r a s b l (eqb-true (num 8 a s) 0 (rw e at o)) h)))
    (λ n3. absurd (false≢true (rw (ne_eqb k 1 n1, ne_eqb k 2 n2, ne_eqb k 3 n3) at o)))
    (eq-or-not k 3)) (eq-or-not k 2)) (eq-or-not k 1)

pub entry_at : (r : Rule) (a : ℕ) (s : List ℕ) → a ≤ length s → takes (entry_rule r) (drop a s) ≡ true
    → (a + 32 ≤ length s) × (entry_ok (drop a s) ≡ true) × (takes r (drop (a + 32) s) ≡ true)
unfolding entry_rule entry_ok
entry_at r a s l h =
    let p = free-at 16 (between 1 0 1 3 (λ k. between 3 0 0 0 (λ x. free 4 (cents_rule k r)))) a s l h in
    let q = between-at 1 1 3 (λ k. between 3 0 0 0 (λ x. free 4 (cents_rule k r))) (a + 16) s (lit< tt) p.0 p.1 in
    let k = num 1 (a + 16) s in
    let z = just-at 3 0 (free 4 (cents_rule k r)) (a + 16 + 1) s (lit< tt) q.long q.rest in
    let f = free-at 4 (cents_rule k r) (a + 16 + 1 + 3) s z.0 z.2 in
    let c = cents-at k r (a + 16 + 1 + 3 + 4) s q.least q.most f.0 f.1 in
    let e1 : a + 16 + 1 ≡ a + 17 = omega arith in
    let e2 : a + 16 + 1 + 3 + 4 ≡ a + 24 = omega arith in
    let e3 : a + 16 + 1 + 3 + 4 + 8 ≡ a + 32 = omega arith in (
      omega (arith, c.0),
      rw (num-drop 3 a 17 s, num-drop 1 a 16 s, num-drop 8 a 24 s)
          (and-true (eqb (num 3 (a + 17) s) 0) (operation_ok k (num 8 (a + 24) s)) (eq-eqb (num 3 (a + 17) s) 0 (rw e1 at z.1)) (rw e2 at c.1)),
      rw e3 at c.2,
    )

pub at_entry : (r : Rule) (a : ℕ) (s : List ℕ) → Bytes s → a + 32 ≤ length s → entry_ok (drop a s) ≡ true → takes r (drop (a + 32) s) ≡ true
    → takes (entry_rule r) (drop a s) ≡ true
unfolding entry_rule entry_ok
at_entry r a s b l o h =
    let k = num 1 (a + 16) s in
    let o1 : (eqb (num 3 (a + 17) s) 0 and operation_ok k (num 8 (a + 24) s)) ≡ true = rw (num-drop 3 a 17 s, num-drop 1 a 16 s, num-drop 8 a 24 s) at o in
    let o2 = and_both (eqb (num 3 (a + 17) s) 0) (operation_ok k (num 8 (a + 24) s)) o1 in
    let e1 : a + 17 ≡ a + 16 + 1 = omega arith in
    let e2 : a + 24 ≡ a + 16 + 1 + 3 + 4 = omega arith in
    let e3 : a + 32 ≡ a + 16 + 1 + 3 + 4 + 8 = omega arith in
    let c = at-cents k r (a + 16 + 1 + 3 + 4) s b (omega arith) (rw e2 at o2.1) (rw e3 at h) in
    at-free 16 (between 1 0 1 3 (λ k. between 3 0 0 0 (λ x. free 4 (cents_rule k r)))) a s (omega arith)
    (at-between 1 1 3 (λ k. between 3 0 0 0 (λ x. free 4 (cents_rule k r))) (a + 16) s b (omega arith) c.0 c.1
    (at-just 3 0 (free 4 (cents_rule k r)) (a + 16 + 1) s b (omega arith) (rw e1 at (eqb-true (num 3 (a + 17) s) 0 o2.0))
    (at-free 4 (cents_rule k r) (a + 16 + 1 + 3) s (omega arith) c.2)))

pub entries_at : (c a : ℕ) (s : List ℕ) → a ≤ length s → takes (entries_rule c) (drop a s) ≡ true
    → (length s ≡ a + 32 * c) × (entries_ok c (drop a s) ≡ true)
unfolding entries_rule entries_ok
entries_at zero a s l h = let e = end-at a s l h in (omega (arith, e), refl)
entries_at (suc c) a s l h =
    let p = entry_at (entries_rule c) a s l h in
    let q = entries_at c (a + 32) s p.0 p.2 in
    (omega (arith, q.0), and-true (entry_ok (drop a s)) (entries_ok c (drop 32 (drop a s))) p.1 (rw drop-drop q.1))

pub at-entries : (c a : ℕ) (s : List ℕ) → Bytes s → length s ≡ a + 32 * c → entries_ok c (drop a s) ≡ true → takes (entries_rule c) (drop a s) ≡ true
unfolding entries_rule entries_ok
at-entries zero a s b l h = at-end a s (omega arith)
at-entries (suc c) a s b l h =
    let p = and_both (entry_ok (drop a s)) (entries_ok c (drop 32 (drop a s))) h in
    at_entry (entries_rule c) a s b (omega arith) p.0 (at-entries c (a + 32) s b (omega arith) (rw drop-drop at p.1))
