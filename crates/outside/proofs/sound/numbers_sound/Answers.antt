-- `outside::sound::numbers_sound` meets its contract. Assumes nothing.
use borrow.Author.Tests.{lt-ltb, le-ltb}
use native.Mathlib.Omega.{arith}
use Rattle.config.proofs.SetupLaws.{sized}
use Rattle.numbers.specs.Words.{when◌then◌else◌}
use Rattle.fees.specs.Takings.{most_takings}
use Rattle.outside.specs.Sound.{numbers_sound}
use Rattle.outside.proofs.sound.numbers_sound.Goals as goal

pub returns-then-s : goal.returns-then-s
unfolding numbers_sound when◌then◌else◌
returns-then-s c = let a = c.args in rw (lt-ltb a.s.op.0 a.s.commit.0 c.if-s.true)

pub returns-then-s-2 : goal.returns-then-s-2
unfolding numbers_sound when◌then◌else◌
returns-then-s-2 c = let a = c.args in rw (le-ltb a.s.op.0 a.s.commit.0 c.if-s.false, lt-ltb a.s.setup.room a.s.op.0 c.if-s-2.true)

pub returns-then-s-gt-MOST : goal.returns-then-s-gt-MOST
unfolding numbers_sound when◌then◌else◌
returns-then-s-gt-MOST c = let a = c.args in rw (le-ltb a.s.op.0 a.s.commit.0 c.if-s.false, le-ltb a.s.setup.room a.s.op.0 c.if-s-2.false, lt-ltb most_takings a.s.takings c.if-s-gt-MOST.true)

pub gathered_ok-requires : goal.gathered_ok-requires
gathered_ok-requires c = let z = sized c.args.s.setup c.requires in omega (arith, z.seven)

pub returns : goal.returns
unfolding numbers_sound when◌then◌else◌
returns c = let a = c.args in rw (le-ltb a.s.op.0 a.s.commit.0 c.if-s.false, le-ltb a.s.setup.room a.s.op.0 c.if-s-2.false, le-ltb most_takings a.s.takings c.if-s-gt-MOST.false) c.gathered_ok.ensures
