-- `whitherhaul::replicas::keep` meets its contract. Assumes nothing.
use mathlib.Core.Path.{ap}
use Rattle.state.specs.Answers.{outcome_code}
use Rattle.whitherhaul.proofs.ReplicaLaws.{keep-refused, keep-done}
use Rattle.whitherhaul.proofs.replicas.keep.Goals as goal

pub returns-in-Err : goal.returns-in-Err
returns-in-Err c = keep-refused c.args.a c.args.state.now c.in-Err.is c.from.ensures

pub returns-in-Ok : goal.returns-in-Ok
returns-in-Ok c = keep-done c.args.a c.args.state.now (ap outcome_code c.in-Ok.is) c.write_state.ensures
