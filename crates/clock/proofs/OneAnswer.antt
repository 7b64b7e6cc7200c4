-- Equality of any two permitted answers: two answers that both meet the contract of a method of the clock are equal. Assumes nothing.
use mathlib.Core.Path.{◌≡◌, sym, ◌∙◌}
use mathlib.Core.Bool.{Bool}
use Prim.Native.Nat.{ℕ}
use Rattle.clock.specs.declared.Clock.{Clock}
use Rattle.clock.specs.declared.Ticked.{Ticked}
use Rattle.clock.specs.declared.Duty.{Duty}
use Rattle.clock.specs.Clock.{fresh_clock, tick_of, heard_of, reset_of, start_of, restart_of}

pub one_answer : {A : Type 0} {e a b : A} → a ≡ e → b ≡ e → a ≡ b
one_answer p q = p ∙ sym q

pub fresh-one : (a b : Clock) → a ≡ fresh_clock → b ≡ fresh_clock → a ≡ b
fresh-one a b = one_answer

module _ (c : Clock) (a b : Ticked) where
  pub tick-one : (T : ℕ) (d : Duty) → a ≡ tick_of T d c → b ≡ tick_of T d c → a ≡ b
  tick-one T d = one_answer

  pub heard-one : a ≡ heard_of c → b ≡ heard_of c → a ≡ b
  heard-one = one_answer

  pub reset-one : a ≡ reset_of c → b ≡ reset_of c → a ≡ b
  reset-one = one_answer

  pub start-one : (again : Bool) → a ≡ start_of again c → b ≡ start_of again c → a ≡ b
  start-one again = one_answer

  pub restart-one : a ≡ restart_of c → b ≡ restart_of c → a ≡ b
  restart-one = one_answer
