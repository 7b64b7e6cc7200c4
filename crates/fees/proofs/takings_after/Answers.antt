-- `fees::takings_after` meets its contract. Assumes nothing.
use mathlib.Core.Path.{sym, ◌∙◌}
use native.Mathlib.Omega.{arith}
use Rattle.fees.proofs.TakingsLaws.{fee-adds, refund-takes, else-stays}
use Rattle.fees.proofs.takings_after.Goals as goal

pub returns-in-1 : goal.returns-in-1
returns-in-1 c = let a = c.args in c.add.ensures ∙ sym (fee-adds a.takings a.o a.cents c.in-1.is)

pub returns-in-2 : goal.returns-in-2
returns-in-2 c = let a = c.args in c.take.ensures ∙ sym (refund-takes a.takings a.o a.cents c.in-2.is)

pub returns-in_default : goal.returns-in_default
returns-in_default c = let a = c.args in sym (else-stays a.takings a.o a.cents (omega arith) (omega arith))
