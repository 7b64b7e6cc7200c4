-- `outside::call::carried_by` meets its contract. Assumes nothing.
use Rattle.std.proofs.Common.{rules}
use Rattle.outside.specs.Calls.{carried_by}
use Rattle.outside.proofs.CallLaws.{carries-none}
use Rattle.outside.proofs.call.carried_by.Goals as goal

pub returns-in_default : goal.returns-in_default
returns-in_default c = carries-none c.args.m c.in_default.not-Request c.in_default.not-Prepare

pub returns-in-Request : goal.returns-in-Request
unfolding carried_by
returns-in-Request c = search rules

pub returns-in-Request-2 : goal.returns-in-Request-2
unfolding carried_by
returns-in-Request-2 c = search rules
