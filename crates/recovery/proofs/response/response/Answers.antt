-- `recovery::response::response` meets its contract. Assumes nothing.
use Rattle.recovery.proofs.ResponseLaws.{holds-absent, holds-present}
use Rattle.recovery.proofs.response.response.Goals as goal

pub returns-in-None : goal.returns-in-None
returns-in-None c = holds-absent c.args.v c.args.state c.in-None.is

pub returns-in-Some : goal.returns-in-Some
returns-in-Some c = holds-present c.args.v c.args.state _ _ c.in-Some.is
