-- `normal::request::weigh_known` meets its contract. Assumes nothing.
use Rattle.normal.specs.Request.{known_verdict}
use Rattle.normal.proofs.request.weigh_known.Goals as goal

pub returns-in-Nothing : goal.returns-in-Nothing
unfolding known_verdict
returns-in-Nothing c = rw c.in-Nothing.is

pub returns-in-Waiting : goal.returns-in-Waiting
unfolding known_verdict
returns-in-Waiting c = rw c.in-Waiting.is

pub returns-in-Answered : goal.returns-in-Answered
unfolding known_verdict
returns-in-Answered c = rw c.in-Answered.is c.weigh_again.ensures
