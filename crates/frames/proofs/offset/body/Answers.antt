-- `frames::offset::body` meets its contract. Assumes nothing.
use mathlib.Core.Path.{◌≡◌, sym, ap, ◌∙◌}
use mathlib.Core.List.{List}
use Prim.Native.Nat.{ℕ, ◌+◌, ◌-◌, ◌≤◌, ◌<◌}
use native.Mathlib.Omega.{arith}
use lib.ListN.{length, drop}
use Rattle.offsets.specs.Rules.{end, reach, free}
use Rattle.offsets.proofs.ReadLaws.{free-field, past-field, short-field, place-le}
use Rattle.frames.specs.Kinds.{kind_number}
use Rattle.frames.specs.FrameRules.{bound_from, bound_rule, body_rule}
use Rattle.frames.proofs.offset.body.Goals as goal

-- the free bytes, read from the addressee on to p
module _ (s : List ℕ) (n k p : ℕ) (six : 6 ≤ bound_from k) (e : p ≡ 6 + reach (free (bound_from k - 6) end) (drop 6 s)) where
  ends : bound_from k ≤ p → p ≡ bound_from k
  ends h = omega (arith, h, e, six, (free-field (bound_from k - 6)).most (drop 6 s))

  goes : bound_from k ≤ p → 6 + reach (body_rule n k) (drop 6 s) ≡ bound_from k + reach (bound_rule n k) (drop (bound_from k) s)
  unfolding body_rule
  goes h =
      past-field 6 s p (free-field (bound_from k - 6)) (bound_rule n k) e (omega (arith, h, six))
      ∙ ap (λ (a : ℕ). a + reach (bound_rule n k) (drop a s)) (ends h)

  stops : p < bound_from k → 6 + reach (body_rule n k) (drop 6 s) ≡ p
  unfolding body_rule
  stops h = short-field 6 s p (free-field (bound_from k - 6)) (bound_rule n k) e (omega (arith, h, e))

  there : 6 ≤ length s → bound_from k ≤ p → bound_from k ≤ length s
  there l h = omega (arith, place-le (free (bound_from k - 6) end) 6 s l, e, ends h)

pub returns-then-p-at : goal.returns-then-p-at
returns-then-p-at c =
    let read : let a = c.args in
    c.free-p.result ≡ 6 + reach (free (bound_from (kind_number a.kind) - 6) end) (drop 6 a.s.now) = rw c.bound_from-at.ensures.0 at c.free-p.ensures in
    let six : 6 ≤ bound_from (kind_number c.args.kind) = omega (arith, c.bound_from-at.ensures) in
    let a = c.args in
    sym (stops a.s.now a.n (kind_number a.kind) _ six read (omega (arith, c.if-p-at.true, c.bound_from-at.ensures.0)))

pub bound-requires : goal.bound-requires
bound-requires c =
    let read : let a = c.args in
    c.free-p.result ≡ 6 + reach (free (bound_from (kind_number a.kind) - 6) end) (drop 6 a.s.now) = rw c.bound_from-at.ensures.0 at c.free-p.ensures in
    let six : 6 ≤ bound_from (kind_number c.args.kind) = omega (arith, c.bound_from-at.ensures) in
    let a = c.args in
    rw c.bound_from-at.ensures.0
    (there a.s.now a.n (kind_number a.kind) _ six read c.requires (omega (arith, c.if-p-at.false, c.bound_from-at.ensures.0)))

pub returns : goal.returns
returns c =
    let read : let a = c.args in
    c.free-p.result ≡ 6 + reach (free (bound_from (kind_number a.kind) - 6) end) (drop 6 a.s.now) = rw c.bound_from-at.ensures.0 at c.free-p.ensures in
    let six : 6 ≤ bound_from (kind_number c.args.kind) = omega (arith, c.bound_from-at.ensures) in
    let a = c.args in
    rw c.bound_from-at.ensures.0 at c.bound.ensures
    ∙ sym (goes a.s.now a.n (kind_number a.kind) _ six read (omega (arith, c.if-p-at.false, c.bound_from-at.ensures.0)))
