-- `frames::offset::count_for` meets its contract. Assumes nothing.
use mathlib.Core.Path.{◌≡◌, sym, ◌∙◌}
use mathlib.Core.Bool.{true, false}
use Prim.Native.Nat.{ℕ, ◌+◌, ◌-◌, ◌/◌}
use native.Mathlib.Omega.{arith}
use lib.Dec.{lit<, eqb}
use Rattle.numbers.specs.Words.{when◌then◌else◌}
use Rattle.frames.specs.Kinds.{kind_number}
use Rattle.frames.specs.FrameRules.{carries_log, entries_from, count_for}
use Rattle.frames.specs.declared.Kind.TheVariants.{Request, Prepare}
use Rattle.frames.proofs.KindLaws.{is-kind, not-kind}
use Rattle.frames.proofs.offset.count_for.Goals as goal

-- of a kind that carries a log, and of one that doesn't
module _ (k n : ℕ) (one : eqb k 1 ≡ false) (two : eqb k 2 ≡ false) where
  logged : carries_log k ≡ true → count_for k n ≡ (n + 4 - entries_from k n) / 32
  unfolding count_for when◌then◌else◌
  logged e = rw (one, two, e)

  bare : carries_log k ≡ false → count_for k n ≡ 0
  unfolding count_for when◌then◌else◌
  bare e = rw (one, two, e)

pub returns-then-eq : goal.returns-then-eq
unfolding count_for when◌then◌else◌
returns-then-eq c = (rw (is-kind _ Request c.eq.ensures c.if-eq.true), lit< tt)

pub returns-then-eq-2 : goal.returns-then-eq-2
unfolding count_for when◌then◌else◌
returns-then-eq-2 c = (rw (is-kind _ Prepare c.eq-2.ensures c.if-eq-2.true), lit< tt)

pub returns-then-not-carries_log : goal.returns-then-not-carries_log
returns-then-not-carries_log c =
    let a = c.args in
    let e = sym c.carries_log.ensures ∙ c.if-not-carries_log.true in
    (sym (bare (kind_number a.kind) a.n (not-kind _ Request c.eq.ensures c.if-eq.false) (not-kind _ Prepare c.eq-2.ensures c.if-eq-2.false) e), lit< tt)

pub returns-then-whole-room : goal.returns-then-whole-room
returns-then-whole-room c =
    let a = c.args in
    let e = sym c.carries_log.ensures ∙ c.if-not-carries_log.false in
    let l = logged (kind_number a.kind) a.n (not-kind _ Request c.eq.ensures c.if-eq.false) (not-kind _ Prepare c.eq-2.ensures c.if-eq-2.false) e in
    (omega (arith, l, c.entries_from-room.ensures.0, c.if-whole-room.true), lit< tt)

pub returns : goal.returns
returns c =
    let a = c.args in
    let e = sym c.carries_log.ensures ∙ c.if-not-carries_log.false in
    let l = logged (kind_number a.kind) a.n (not-kind _ Request c.eq.ensures c.if-eq.false) (not-kind _ Prepare c.eq-2.ensures c.if-eq-2.false) e in
    (rw c.entries_from-room.ensures.0 (sym l), omega (arith, c.ranges.n))
