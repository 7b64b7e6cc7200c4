-- `fees::apply` meets its contract. Assumes nothing.
use Rattle.fees.proofs.FeeLaws.{inside, outside}
use Rattle.fees.proofs.apply.Goals as goal

pub returns-then-e-members : goal.returns-then-e-members
returns-then-e-members c = let a = c.args in inside a.members a.totals.now a.e c.read_u64.result c.operation_of-op.result c.by_rule-o.result _ c.if-e-members.true c.read_u64.ensures c.operation_of-op.ensures c.by_rule-o.ensures c.write_u64.ensures

pub returns : goal.returns
returns c = let a = c.args in outside a.members a.totals.now a.e c.if-e-members.false
