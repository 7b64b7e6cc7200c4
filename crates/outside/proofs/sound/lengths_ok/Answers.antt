-- `outside::sound::lengths_ok` meets its contract. Assumes nothing.
use borrow.Author.Tests.{eq-eqb, ne_eqb}
use Prim.Native.Nat.{◌*◌}
use native.Mathlib.Omega.{arith}
use Rattle.config.proofs.SetupLaws.{sized}
use Rattle.numbers.specs.Words.{when◌then◌else◌}
use Rattle.outside.specs.Sound.{lengths_ok}
use Rattle.outside.proofs.sound.lengths_ok.Goals as goal

pub returns-then-l-room : goal.returns-then-l-room
unfolding lengths_ok when◌then◌else◌
returns-then-l-room c = let a = c.args in rw (ne_eqb a.l.log (32 * a.u.room) c.if-l-room.true)

pub returns-then-l-room-2 : goal.returns-then-l-room-2
unfolding lengths_ok when◌then◌else◌
returns-then-l-room-2 c = let a = c.args in rw (eq-eqb a.l.log (32 * a.u.room) c.if-l-room.false, ne_eqb a.l.results (9 * a.u.room) c.if-l-room-2.true)

pub returns-then-l-u : goal.returns-then-l-u
unfolding lengths_ok when◌then◌else◌
returns-then-l-u c = let a = c.args in rw (eq-eqb a.l.log (32 * a.u.room) c.if-l-room.false, eq-eqb a.l.results (9 * a.u.room) c.if-l-room-2.false, ne_eqb a.l.totals (8 * a.u.members) c.if-l-u.true)

pub returns-then-l-room-3 : goal.returns-then-l-room-3
unfolding lengths_ok when◌then◌else◌
returns-then-l-room-3 c = let a = c.args in rw (eq-eqb a.l.log (32 * a.u.room) c.if-l-room.false, eq-eqb a.l.results (9 * a.u.room) c.if-l-room-2.false, eq-eqb a.l.totals (8 * a.u.members) c.if-l-u.false, ne_eqb a.l.acks a.u.room c.if-l-room-3.true)

pub place-requires : goal.place-requires
place-requires c = let z = sized c.args.u c.requires in (omega (arith, z.room-high), omega (arith, z.seven))

pub returns-then-l-place : goal.returns-then-l-place
unfolding lengths_ok when◌then◌else◌
returns-then-l-place c = let a = c.args in rw (eq-eqb a.l.log (32 * a.u.room) c.if-l-room.false, eq-eqb a.l.results (9 * a.u.room) c.if-l-room-2.false, eq-eqb a.l.totals (8 * a.u.members) c.if-l-u.false, eq-eqb a.l.acks a.u.room c.if-l-room-3.false, ← c.place.ensures, ne_eqb a.l.stored c.place.result c.if-l-place.true)

pub returns : goal.returns
unfolding lengths_ok when◌then◌else◌
returns c = let a = c.args in rw (eq-eqb a.l.log (32 * a.u.room) c.if-l-room.false, eq-eqb a.l.results (9 * a.u.room) c.if-l-room-2.false, eq-eqb a.l.totals (8 * a.u.members) c.if-l-u.false, eq-eqb a.l.acks a.u.room c.if-l-room-3.false, ← c.place.ensures, eq-eqb a.l.stored c.place.result c.if-l-place.false)
