-- `handlers::message::on_message` meets its contract. Assumes nothing.
use mathlib.Core.Bool.{not}
use mathlib.Core.Path.{ap}
use Rattle.handlers.proofs.HandleLaws.{looks-not, looks}
use Rattle.handlers.proofs.message.on_message.Goals as goal

pub returns-then-not-looks : goal.returns-then-not-looks
returns-then-not-looks c = let a = c.args in looks-not a.s a.m a.latest a.frame.now a.log.now a.results.now a.totals.now a.acks.now a.stored.now a.out.now a.reps.now c.looks.result c.looks.ensures (ap not c.if-not-looks.true) c.done.ensures

pub returns : goal.returns
returns c = let a = c.args in looks a.s a.m a.latest a.frame.now a.log.now a.results.now a.totals.now a.acks.now a.stored.now a.out.now a.reps.now c.looks.result c.looks.ensures (ap not c.if-not-looks.false) c.handle.ensures
