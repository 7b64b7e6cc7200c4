-- `whitherhaul::replicas::whitherhaul_on_idle` meets its contract. Assumes nothing.
use mathlib.Core.Path.{sym, ◌∙◌}
use Rattle.replica.specs.Lent.{lent}
use Rattle.state_bytes.proofs.QuietLaws.{looks-none, looks-ok, looks-quiet}
use Rattle.whitherhaul.proofs.ReplicaLaws.{no-tick}
use Rattle.whitherhaul.proofs.replicas.whitherhaul_on_idle.Goals as goal

pub returns-in_default : goal.returns-in_default
returns-in_default c = let a = c.args in no-tick a.state.now (lent a.log.now a.results.now a.totals.now a.acks.now a.stored.now a.table.now a.out.now a.reps.now) (looks-none _ c.look_over.ensures c.in_default.is)

pub tick_whole-requires : goal.tick_whole-requires
tick_whole-requires c = looks-ok _ c.look_over.ensures c.in-Some.is

pub tick_usual-requires : goal.tick_usual-requires
tick_usual-requires c = let l = c.look_over.ensures in (looks-ok _ l c.in-Some.is, looks-quiet _ l c.in-Some.is (sym c.is_quiet.ensures ∙ c.if-is_quiet.true))
