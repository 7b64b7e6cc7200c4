-- `frames::offset::some_fits` meets its contract. Assumes nothing.
use Rattle.std.specs.Prelude.{Option}
use Rattle.std.specs.Option.{is_some}
use mathlib.Core.Path.{◌≡◌, refl, sym, ap, ◌∙◌}
use mathlib.Core.Bool.{Bool, false}
use Prim.Native.Nat.{ℕ, suc, ◌+◌, ◌-◌, ◌≤◌}
use native.Mathlib.Omega.{arith}
use Rattle.numbers.specs.Words.{◌or◌}
use Rattle.frames.specs.Kinds.{KindIf}
use Rattle.frames.specs.declared.Kind.{Kind}
use Rattle.frames.specs.FrameRules.{fits, some_fits}
use Rattle.frames.proofs.KindLaws.{some-kind}
use Rattle.frames.proofs.LiveLaws.{fits-some}
use Rattle.frames.proofs.offset.some_fits.Goals as goal

pub loop-k-init : goal.loop-k-init
unfolding some_fits
loop-k-init c = refl

-- what the code's test of kind k says
fitted : (n k : ℕ) (r : Option Kind) {b : Bool} → KindIf (fits n k) k r → is_some r ≡ b → fits n k ≡ b
fitted n k r f e = sym (some-kind (fits n k) k r f) ∙ e

pub returns-then-is_some : goal.returns-then-is_some
returns-then-is_some c =
    let l = c.loop-k in
    sym (fits-some 11 c.args.n l.k (omega arith) (omega arith) (fitted c.args.n l.k _ c.fitting.ensures (sym c.is_some.ensures ∙ c.if-is_some.true)))

-- one more kind that doesn't fit
next : (n k : ℕ) → 1 ≤ k → fits n k ≡ false → some_fits (k - 1) n ≡ false → some_fits k n ≡ false
unfolding some_fits ◌or◌
next n k l f h =
    let m : k ≡ suc (k - 1) = omega arith in
    ap (λ (j : ℕ). some_fits j n) m ∙ ap (λ (b : Bool). b or some_fits (k - 1) n) (ap (fits n) (sym m) ∙ f) ∙ h

pub loop-k-preserved : goal.loop-k-preserved
loop-k-preserved c =
    let l = c.loop-k in
    let back : l.k + 1 - 1 ≡ l.k = omega arith in
    rw back (next c.args.n l.k (omega arith) (fitted c.args.n l.k _ c.fitting.ensures (sym c.is_some.ensures ∙ c.if-is_some.false)) l.invariant)
