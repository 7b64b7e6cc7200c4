-- `state_bytes::part::is_zero` meets its contract: what is left is all zero exactly where all of it is. Assumes nothing.
use mathlib.Core.Path.{◌≡◌, sym, ap, ◌∙◌}
use Prim.Native.Nat.{ℕ, ◌+◌, ◌-◌, ◌*◌}
use native.Mathlib.Omega.{arith}
use lib.Dec.{eqb}
use lib.ListN.{take, drop}
use Rattle.state_bytes.specs.Layout.{all_zero}
use Rattle.state_bytes.proofs.QuietLaws.{num-zero, zero_turn, zero-stop}
use Rattle.state_bytes.proofs.part.is_zero.Goals as goal

pub returns-then-read_u64-ne0 : goal.returns-then-read_u64-ne0
returns-then-read_u64-ne0 c = let l = c.loop-i in let a = c.args in let m : 98 - 8 * l.i ≡ 8 + (98 - 8 * (l.i + 1)) = omega arith in sym (l.invariant ∙ ap (λ (k : ℕ). all_zero (take k (drop (a.at + 8 * l.i) a.run.now))) m ∙ zero-stop a.run.now (a.at + 8 * l.i) (98 - 8 * (l.i + 1)) (λ e. c.if-read_u64-ne0.true (c.read_u64.ensures ∙ e)))

pub loop-i-preserved : goal.loop-i-preserved
loop-i-preserved c = let l = c.loop-i in let a = c.args in let m : 98 - 8 * l.i ≡ 8 + (98 - 8 * (l.i + 1)) = omega arith in let p : a.at + 8 * l.i + 8 ≡ a.at + 8 * (l.i + 1) = omega arith in l.invariant ∙ ap (λ (k : ℕ). all_zero (take k (drop (a.at + 8 * l.i) a.run.now))) m ∙ zero_turn a.run.now (a.at + 8 * l.i) (98 - 8 * (l.i + 1)) (sym c.read_u64.ensures ∙ c.if-read_u64-ne0.false) ∙ ap (λ (x : ℕ). all_zero (take (98 - 8 * (l.i + 1)) (drop x a.run.now))) p

pub returns : goal.returns
returns c = let l = c.loop-i in let a = c.args in let t : l.i ≡ 12 = omega arith in ap (λ (x : ℕ). eqb x 0) c.read_u16.ensures ∙ num-zero 2 (a.at + 96) a.run.now ∙ sym (l.invariant ∙ ap (λ (i : ℕ). all_zero (take (98 - 8 * i) (drop (a.at + 8 * i) a.run.now))) t)
