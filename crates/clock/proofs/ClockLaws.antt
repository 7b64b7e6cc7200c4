-- Laws of the idle clock. `capped` reads the Rust's counters as document 01 compares them, stable ticks to T and attempts to 10.
--     same-tick, same_up                                a tick, and whether it starts a view change
--     same-heard, same-reset, same_start, same-restart  what else the Rust does to the counters
--     limit-fits, limit-most                            a wait's length is below 2 ^ 27
--     waits-on                                          a wait that is not over is shorter than that: no counter reaches its end
-- Assumes nothing.
use mathlib.Core.Path.{◌≡◌, refl, ap, ◌∙◌}
use mathlib.Core.Bool.{Bool, true, false}
use Prim.Native.Nat.{ℕ, ◌+◌, ◌*◌, ◌^◌, ◌%◌, ◌≤◌, ◌<◌, min}
use native.Mathlib.Nat.{mul-le-mul, mod-eq_of_lt}
use native.Mathlib.Omega.{arith}
use lib.Dec.{leb}
use lib.Pow.{pow_mono}
use borrow.Author.Tests.{leb-true, leb-false, le-leb, lt-leb}
use Rattle.numbers.specs.Words.{when◌then◌else◌}
use Rattle.numbers.proofs.WordLaws.{split, split₂}
use Rattle.clock.specs.declared.Clock.{Clock}
use Rattle.clock.specs.declared.Ticked.{Ticked}
use Rattle.clock.specs.declared.Duty.{Duty}
use Rattle.clock.specs.declared.Duty.TheVariants.{Lead, Follow, Change}
use Rattle.clock.specs.Clock.{clock, limit_of, waited_of, stable_tick, wait_tick, tick_of, heard_of, reset_of, start_of, restart_of}
use Rattle.clock.specs.Rust.{Counters, counters, capped, rust_stable, rust_wait, rust_timed_out, rust_tick, rust_up, rust_heard, rust_reset, rust_start, rust_restart}

pub limit-most : (T k : ℕ) → T ≤ 65535 → k ≤ 10 → T * 2 ^ k ≤ 67107840
limit-most T k h g = mul-le-mul h (pow_mono {i = k} {j = 10} g)

pub limit-fits : (T k : ℕ) → T ≤ 65535 → k ≤ 10 → T * 2 ^ k % 4294967296 ≡ T * 2 ^ k
limit-fits T k h g = mod-eq_of_lt (omega (arith, limit-most T k h g))

-- ---- the Rust's counters, capped

cap-twice : (a : ℕ) → min (min a 10) 10 ≡ min a 10
cap-twice a = omega arith

cap-more : (a b : ℕ) → min (min a b + 1) b ≡ min (a + 1) b
cap-more a b = omega arith

cap-if : (b : Bool) (a : ℕ) → (when b then 0 else min a 10) ≡ min (when b then 0 else a) 10
unfolding when◌then◌else◌
cap-if true a = refl
cap-if false a = refl

-- T stable ticks are reached by the capped count as by the Rust's
reached : (T s : ℕ) → leb T (min (s + 1) T) ≡ leb T (s + 1)
reached T s = go (leb T (s + 1)) refl
  where
    go : (b : Bool) → leb T (s + 1) ≡ b → leb T (min (s + 1) T) ≡ b
    go true e = le-leb T (min (s + 1) T) (omega (arith, leb-true T (s + 1) e))
    go false e = lt-leb T (min (s + 1) T) (omega (arith, leb-false T (s + 1) e))

same-stable : (T : ℕ) (r : Counters) → stable_tick T (capped T r) ≡ capped T (rust_stable T r)
unfolding stable_tick capped rust_stable
same-stable T r = rw (cap-more r.stable T, reached T r.stable, cap-if (leb T (r.stable + 1)) r.attempts)

waited-more : (w : ℕ) → w < 4294967295 → waited_of w ≡ w + 1
unfolding waited_of
waited-more w h = omega arith

same-wait : (T : ℕ) (r : Counters) → r.waiting < 4294967295 → (wait_tick T (capped T r)).clock ≡ capped T (rust_wait r)
unfolding wait_tick capped rust_wait
same-wait T r h = rw (waited-more r.waiting h)

same_over : (T : ℕ) (r : Counters) → r.waiting < 4294967295 → (wait_tick T (capped T r)).up ≡ rust_timed_out T r
unfolding wait_tick capped rust_timed_out limit_of
same_over T r h = rw (waited-more r.waiting h, cap-twice r.attempts)

-- the stable ticks start again at 0
none : (T : ℕ) (r : Counters) → clock false r.waiting 0 (min r.attempts 10) ≡ capped T (counters false r.waiting 0 r.attempts)
unfolding capped
none T r =
    let z : min 0 T ≡ 0 = omega arith in
    rw z

module _ (T : ℕ) (r : Counters) (h : r.waiting < 4294967295) where
  pub same-tick : (d : Duty) → (tick_of T d (capped T r)).clock ≡ capped T (rust_tick T d r)
  unfolding tick_of rust_tick capped
  same-tick Lead = same-stable T r
  same-tick Follow =
      split₂ (λ (a : Ticked) (b : Counters). a.clock ≡ capped T b) _ _ _ _ _ _ refl
      (λ _. same-stable T (counters false 0 r.stable r.attempts))
      (λ _. ap (λ (c : Clock). (wait_tick T c).clock) (none T r) ∙ same-wait T (counters false r.waiting 0 r.attempts) h)
  same-tick Change = same-wait T r h

  pub same_up : (d : Duty) → (tick_of T d (capped T r)).up ≡ rust_up T d r
  unfolding tick_of rust_up capped wait_tick rust_timed_out
  same_up Lead = refl
  same_up Follow =
      split₂ (λ (a : Ticked) (b : Bool). a.up ≡ b) _ _ _ _ _ _ refl
      (λ _. refl)
      (λ _. ap (λ (c : Clock). (wait_tick T c).up) (none T r) ∙ same_over T (counters false r.waiting 0 r.attempts) h)
  same_up Change = same_over T r h

module _ (T : ℕ) (r : Counters) where
  pub same-heard : (heard_of (capped T r)).clock ≡ capped T (rust_heard r)
  unfolding capped rust_heard
  same-heard = refl

  pub same-reset : (reset_of (capped T r)).clock ≡ capped T (rust_reset r)
  unfolding capped rust_reset
  same-reset =
      let z : min 0 T ≡ 0 = omega arith in
      rw z

  pub same_start : (again : Bool) → (start_of again (capped T r)).clock ≡ capped T (rust_start again r)
  unfolding start_of capped rust_start when◌then◌else◌
  same_start true = rw (cap-more r.attempts 10)
  same_start false = refl

  pub same-restart : (restart_of (capped T r)).clock ≡ capped T (rust_restart r)
  unfolding capped rust_restart
  same-restart = refl

-- ---- how long a wait can get

over-or-short : (T : ℕ) (c : Clock) → T ≤ 65535 → (wait_tick T c).up ≡ false → (wait_tick T c).clock.waiting < 67107840
unfolding wait_tick limit_of
over-or-short T c t u = omega (arith, limit-most T (min c.attempts 10) t (omega arith), leb-false (T * 2 ^ min c.attempts 10) (waited_of c.waiting) u)

pub waits-on : (T : ℕ) (d : Duty) (c : Clock) → T ≤ 65535 → c.waiting < 67107840 → (tick_of T d c).up ≡ false → (tick_of T d c).clock.waiting < 67107840
unfolding tick_of stable_tick
waits-on T Lead c t h u = h
waits-on T Follow c t h u =
    split (λ (a : Ticked). a.up ≡ false → a.clock.waiting < 67107840) _ _ _
    (λ _ v. omega arith)
    (λ _ v. over-or-short T (clock false c.waiting 0 c.attempts) t v) u
waits-on T Change c t h u = over-or-short T c t u
