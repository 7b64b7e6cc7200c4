-- `outside::create::recover` meets its contract. Assumes nothing.
use mathlib.Core.Bool.{not}
use mathlib.Core.Path.{ap}
use mathlib.Core.Path.{sym, ◌∙◌}
use native.Mathlib.Omega.{arith}
use Rattle.config.proofs.SetupLaws.{sized}
use Rattle.outside.proofs.SoundLaws.{creatable-is}
use Rattle.outside.proofs.CreateLaws.{not-recovered, no_room, recovered}
use Rattle.outside.proofs.create.recover.Goals as goal

pub returns-then-not-is_creatable : goal.returns-then-not-is_creatable
returns-then-not-is_creatable c = not-recovered c.args.u c.args.l c.args.totals.now c.args.acks.now c.args.out.now c.is_creatable.result c.is_creatable.ensures (ap not c.if-not-is_creatable.true) c.args.v c.args.nonce c.no_replica.result c.no_replica.ensures c.refused.ensures

pub overflow_sub-u : goal.overflow_sub-u
overflow_sub-u c = let k = creatable-is c.args.u c.args.l c.is_creatable.result c.is_creatable.ensures (ap not c.if-not-is_creatable.false) in let z = sized c.args.u k.0 in omega (arith, z.three)

pub returns-then-out-u : goal.returns-then-out-u
returns-then-out-u c = no_room c.args.u c.args.l c.args.totals.now c.args.acks.now c.args.out.now c.is_creatable.result c.is_creatable.ensures (ap not c.if-not-is_creatable.false) c.args.v c.args.nonce c.if-out-u.true c.no_replica-then-out-u.result c.no_replica-then-out-u.ensures c.refused-then-out-u.ensures

pub empty-requires : goal.empty-requires
empty-requires c = let k = creatable-is c.args.u c.args.l c.is_creatable.result c.is_creatable.ensures (ap not c.if-not-is_creatable.false) in (k.0, (sym c.requires.0 ∙ k.1.totals, sym c.requires.1 ∙ k.1.acks))

pub tick_recovering-requires : goal.tick_recovering-requires
tick_recovering-requires c = let k = creatable-is c.args.u c.args.l c.is_creatable.result c.is_creatable.ensures (ap not c.if-not-is_creatable.false) in rw c.new.ensures k.0

pub returns : goal.returns
returns c = recovered c.args.u c.args.l c.args.totals.now c.args.acks.now c.args.out.now c.is_creatable.result c.is_creatable.ensures (ap not c.if-not-is_creatable.false) c.empty.ensures.0 c.empty.ensures.1 c.args.v c.args.nonce c.new.result c.new.ensures (rw c.new.ensures c.if-out-u.false) c.tick_recovering.ensures
