-- `state_bytes::front_ok` meets its contract. Assumes nothing.
use mathlib.Core.Bool.{not}
use mathlib.Core.Path.{ap}
use Rattle.state_bytes.proofs.ReadLaws.{not-long, no-status, no-catching, no-heard, by-sent}
use Rattle.state_bytes.proofs.front_ok.Goals as goal

pub returns-then-run-ne154 : goal.returns-then-run-ne154
returns-then-run-ne154 c = not-long c.args.run.now c.if-run-ne154.true

pub returns-then-read_u8-gt3 : goal.returns-then-read_u8-gt3
returns-then-read_u8-gt3 c = no-status c.args.run.now c.if-run-ne154.false c.read_u8.ensures c.if-read_u8-gt3.true

pub returns-then-not-flag_ok : goal.returns-then-not-flag_ok
returns-then-not-flag_ok c = no-catching c.args.run.now c.if-run-ne154.false c.read_u8.ensures c.if-read_u8-gt3.false c.flag_ok.ensures (ap not c.if-not-flag_ok.true)

pub returns-then-not-flag_ok-2 : goal.returns-then-not-flag_ok-2
returns-then-not-flag_ok-2 c = no-heard c.args.run.now c.if-run-ne154.false c.read_u8.ensures c.if-read_u8-gt3.false c.flag_ok.ensures (ap not c.if-not-flag_ok.false) c.flag_ok-2.ensures (ap not c.if-not-flag_ok-2.true)

pub returns : goal.returns
returns c = by-sent c.args.run.now c.if-run-ne154.false c.read_u8.ensures c.if-read_u8-gt3.false c.flag_ok.ensures (ap not c.if-not-flag_ok.false) c.flag_ok-2.ensures (ap not c.if-not-flag_ok-2.false) c.flag_ok-3.ensures
