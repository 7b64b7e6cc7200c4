-- `frames::judge` meets its contract. Assumes nothing.
use mathlib.Core.Path.{◌≡◌}
use mathlib.Core.Bool.{not}
use Rattle.std.specs.Prelude.{Ok, Err}
use borrow.Author.Tests.{ne_eqb, eq-eqb, le-leb, lt-leb, lt-ltb, le-ltb}
use Rattle.numbers.specs.Words.{when◌then◌else◌, ◌or◌}
use Rattle.numbers.proofs.RunLaws.{part-rest}
use Rattle.entries.specs.Rising.{rising}
use Rattle.frames.specs.Refusals.{whole_log, refusal_of}
use Rattle.frames.specs.declared.Refusal.TheVariants.{NotRising}
use Rattle.frames.proofs.judge.Goals as goal
use Rattle.frames.proofs.judge.Goals.{then-to-u-via-then-to-u, then-to-u-via-else-to-u+then-u-x}

pub returns-then-to-u : goal.returns-then-to-u
unfolding refusal_of when◌then◌else◌ ◌or◌
returns-then-to-u c =
    elim c.then-to-u.branch [
      | then-to-u-via-then-to-u w ↦ rw (ne_eqb _ _ w.if-to-u.true)
      | then-to-u-via-else-to-u+then-u-x w ↦ rw (eq-eqb _ _ w.if-to-u.false, le-leb _ _ w.if-u-x.true)
    ]

pub returns-then-u-x-2 : goal.returns-then-u-x-2
unfolding refusal_of when◌then◌else◌ ◌or◌
returns-then-u-x-2 c =
    rw (eq-eqb _ _ c.if-to-u.false, lt-leb _ _ c.if-u-x.false, lt-ltb _ _ c.if-u-x-2.true)

pub returns-then-x : goal.returns-then-x
unfolding refusal_of when◌then◌else◌ ◌or◌
returns-then-x c =
    rw (eq-eqb _ _ c.if-to-u.false, lt-leb _ _ c.if-u-x.false, le-ltb _ _ c.if-u-x-2.false, lt-ltb _ _ c.if-x.true)

pub returns-then-not-is_rising : goal.returns-then-not-is_rising
unfolding when◌then◌else◌ refusal_of ◌or◌ whole_log
returns-then-not-is_rising c =
    let left : let a = c.args in
    refusal_of a.u a.to a.x a.frame.now ≡ (when not (rising (whole_log a.x a.frame.now)) then Err NotRising else Ok tt) = rw (eq-eqb _ _ c.if-to-u.false, lt-leb _ _ c.if-u-x.false, le-ltb _ _ c.if-u-x-2.false, le-ltb _ _ c.if-x.false) in
    let log : let a = c.args in
    c.is_rising.result ≡ rising (whole_log a.x a.frame.now) = let a = c.args in
    rw (part-rest a.x.start a.frame.now) at c.is_rising.ensures in
    rw (left, ← log, c.if-not-is_rising.true)

pub returns : goal.returns
unfolding when◌then◌else◌ refusal_of ◌or◌ whole_log
returns c =
    let left : let a = c.args in
    refusal_of a.u a.to a.x a.frame.now ≡ (when not (rising (whole_log a.x a.frame.now)) then Err NotRising else Ok tt) = rw (eq-eqb _ _ c.if-to-u.false, lt-leb _ _ c.if-u-x.false, le-ltb _ _ c.if-u-x-2.false, le-ltb _ _ c.if-x.false) in
    let log : let a = c.args in
    c.is_rising.result ≡ rising (whole_log a.x a.frame.now) = let a = c.args in
    rw (part-rest a.x.start a.frame.now) at c.is_rising.ensures in
    rw (left, ← log, c.if-not-is_rising.false)
