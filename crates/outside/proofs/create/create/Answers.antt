-- `outside::create::create` meets its contract. Assumes nothing.
use mathlib.Core.Bool.{not}
use mathlib.Core.Path.{ap}
use mathlib.Core.Path.{sym, ◌∙◌}
use mathlib.Core.List.{[]}
use Rattle.outside.proofs.SoundLaws.{creatable-is}
use Rattle.outside.proofs.CreateLaws.{not-created, created}
use Rattle.outside.proofs.create.create.Goals as goal

pub returns-then-not-is_creatable : goal.returns-then-not-is_creatable
returns-then-not-is_creatable c = not-created c.args.u c.args.l c.args.totals.now c.args.acks.now [] c.is_creatable.result c.is_creatable.ensures (ap not c.if-not-is_creatable.true) c.no_replica.result c.no_replica.ensures c.refused.ensures

pub empty-requires : goal.empty-requires
empty-requires c = let k = creatable-is c.args.u c.args.l c.is_creatable.result c.is_creatable.ensures (ap not c.if-not-is_creatable.false) in (k.0, (sym c.requires.0 ∙ k.1.totals, sym c.requires.1 ∙ k.1.acks))

pub returns : goal.returns
returns c = created c.args.u c.args.l c.args.totals.now c.args.acks.now [] c.is_creatable.result c.is_creatable.ensures (ap not c.if-not-is_creatable.false) c.empty.ensures.0 c.empty.ensures.1 c.new.result c.new.ensures c.done.ensures
