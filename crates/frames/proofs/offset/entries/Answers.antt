-- `frames::offset::entries` meets its contract. Assumes nothing.
use mathlib.Core.Path.{◌≡◌, refl, sym, ap, ◌∙◌}
use mathlib.Core.List.{List}
use Prim.Native.Nat.{ℕ, suc, ◌+◌, ◌-◌, ◌*◌, ◌≤◌, ◌<◌}
use native.Mathlib.Omega.{arith}
use lib.ListN.{length, drop}
use Rattle.offsets.specs.Rules.{end, reach}
use Rattle.offsets.proofs.ReadLaws.{past-field, short-field, place-le}
use Rattle.frames.specs.FrameRules.{entry_rule, entries_rule}
use Rattle.frames.proofs.ReaderLaws.{entry-field}
use Rattle.frames.proofs.offset.entries.Goals as goal

-- the next entry: the reader from p on stopped at q
module _ (s : List ℕ) (c p q : ℕ) (e : q ≡ p + reach (entry_rule end) (drop p s)) where
  whole : 32 ≤ q - p → q ≡ p + 32
  whole h = omega (arith, h, e, entry-field.most (drop p s))

  next : 32 ≤ q - p → p + reach (entries_rule (suc c)) (drop p s) ≡ p + 32 + reach (entries_rule c) (drop (p + 32) s)
  unfolding entries_rule
  next h = past-field p s q entry-field (entries_rule c) e h ∙ ap (λ (j : ℕ). j + reach (entries_rule c) (drop j s)) (whole h)

  stop : q - p < 32 → p + reach (entries_rule (suc c)) (drop p s) ≡ q
  unfolding entries_rule
  stop h = short-field p s q entry-field (entries_rule c) e h

pub returns-then-q-p-lt32 : goal.returns-then-q-p-lt32
returns-then-q-p-lt32 c =
    let l = c.loop-i in
    let a = c.args in
    let m : a.count - l.i ≡ suc (a.count - (l.i + 1)) = omega arith in
    sym (l.invariant.1 ∙ rw m (stop a.s.now (a.count - (l.i + 1)) (a.at + 32 * l.i) _ c.entry-q.ensures c.if-q-p-lt32.true))

pub loop-i-preserved : goal.loop-i-preserved
loop-i-preserved c =
    let l = c.loop-i in
    let a = c.args in
    let m : a.count - l.i ≡ suc (a.count - (l.i + 1)) = omega arith in
    let p : a.at + 32 * (l.i + 1) ≡ a.at + 32 * l.i + 32 = omega arith in (
      omega (arith, whole a.s.now 0 (a.at + 32 * l.i) _ c.entry-q.ensures c.if-q-p-lt32.false, c.entry-q.ensures, place-le (entry_rule end) (a.at + 32 * l.i) a.s.now l.invariant.0),
      l.invariant.1 ∙ rw (m, p) (next a.s.now (a.count - (l.i + 1)) (a.at + 32 * l.i) _ c.entry-q.ensures c.if-q-p-lt32.false),
    )

pub returns : goal.returns
unfolding entries_rule reach
returns c =
    let l = c.loop-i in
    let a = c.args in
    let z : a.count - l.i ≡ 0 = omega arith in
    let all : l.i ≡ a.count = omega arith in
    omega (arith, all, l.invariant.1, ap (λ (m : ℕ). reach (entries_rule m) (drop (a.at + 32 * l.i) a.s.now)) z)
