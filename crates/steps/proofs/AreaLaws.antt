-- What fits the areas of `out_length` and `reps_length` bytes, and which answers are then left.
--     both-fit, one-fits, each_fits    bytes to each other replica, and bytes to one
--     others                           a number below 9
--     later, done                      a handler's number below 9, which isn't 2: `Answers`
--     no_room, no-reply-room           its refusal by 9 or 10, of what would have fit
-- Assumes nothing.
use mathlib.Core.Path.{◌≡◌}
use mathlib.Core.Bool.{true}
use Prim.Native.Nat.{ℕ, ◌+◌, ◌-◌, ◌*◌, ◌≤◌, ◌<◌}
use native.Mathlib.Nat.{mul-add, mul-le-mul_right}
use native.Mathlib.Omega.{arith}
use borrow.Author.Tests.{ltb-true}
use lib.Dec.{ltb}
use Rattle.config.specs.Setup.{setup_ok}
use Rattle.config.specs.declared.Setup.{Setup}
use Rattle.config.proofs.SetupLaws.{sized}
use Rattle.steps.specs.Areas.{out_length, reps_length, Suffices}

-- ---- lengths

-- k others, of whom there are at least two, and c bytes that are left for each
spread : (k a b c : ℕ) → 2 ≤ k → b ≤ 2 * c → k * a + b ≤ k * (a + c)
spread k a b c two h = omega (arith, mul-add k a c, mul-le-mul_right c two, h)

module _ (u : Setup) (ok : setup_ok u ≡ true) where
  pub both-fit : (a b : ℕ) → b + 2 * a ≤ 30 + 102 * u.room → (u.n - 1) * a + b ≤ out_length u
  unfolding out_length
  both-fit a b h =
      let c = 15 + 51 * u.room - a in
      let e : a + c ≡ 15 + 51 * u.room = omega (arith, h) in
      rw (← e) (spread (u.n - 1) a b c (omega (arith, (sized u ok).three)) (omega (arith, h)))

  pub one-fits : (b : ℕ) → b ≤ 30 + 102 * u.room → b ≤ out_length u
  one-fits b h = omega (arith, both-fit 0 b (omega (arith, h)))

  pub each_fits : (a : ℕ) → a ≤ 15 + 51 * u.room → (u.n - 1) * a ≤ out_length u
  each_fits a h = omega (arith, both-fit a 0 (omega (arith, h)))

-- ---- answers

-- What a handler answers: never 2, which is given on the frame alone, and with areas that long neither 9 nor 10.
pub record Answers (u : Setup) (out reps code : ℕ) : Type 0 where
  pub suffices : Suffices u out reps code
  pub formed : code ≡ 2 → ⊥

module _ {u : Setup} {out reps : ℕ} where
  pub others : {k : ℕ} → k < 9 → Suffices u out reps k
  others h = record { messages = λ _ e. omega (arith, h, e); replies = λ _ e. omega (arith, h, e) }

  pub later : {k : ℕ} → 2 < k → k < 9 → Answers u out reps k
  later l h = record { suffices = others h; formed = λ e. omega (arith, l, e) }

  pub done : Answers u out reps 0
  done = record { suffices = others (omega arith); formed = λ e. omega (arith, e) }

  pub no_room : (k : ℕ) → k ≤ out_length u → ltb out k ≡ true → Answers u out reps 9
  no_room k h t =
      record {
        suffices = record { messages = λ l _. omega (arith, h, l, ltb-true out k t); replies = λ _ e. omega (arith, e) };
        formed = λ e. omega (arith, e);
      }

  pub no-reply-room : (k : ℕ) → k ≤ reps_length u → ltb reps k ≡ true → Answers u out reps 10
  no-reply-room k h t =
      record {
        suffices = record { messages = λ _ e. omega (arith, e); replies = λ l _. omega (arith, h, l, ltb-true reps k t) };
        formed = λ e. omega (arith, e);
      }
