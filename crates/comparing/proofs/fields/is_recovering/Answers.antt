-- `comparing::fields::is_recovering` meets its contract. Assumes nothing.
use Rattle.state.specs.Statuses.{is_recovering}
use Rattle.comparing.proofs.FieldLaws.{not_recovering}
use Rattle.comparing.proofs.fields.is_recovering.Goals as goal

pub returns-in-Recovering : goal.returns-in-Recovering
unfolding is_recovering
returns-in-Recovering c = rw c.in-Recovering.is

pub returns-in_default : goal.returns-in_default
returns-in_default c = not_recovering c.args.s c.in_default.not-Recovering
