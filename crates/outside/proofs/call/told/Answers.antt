-- `outside::call::told` meets its contract. Assumes nothing.
use mathlib.Core.Path.{sym, ◌∙◌}
use Rattle.outside.proofs.CallLaws.{told-his, told-other}
use Rattle.outside.proofs.call.told.Goals as goal

pub returns-in-Some : goal.returns-in-Some
returns-in-Some c = sym (told-his c.args.m c.args.l _ (sym c.carried_by.ensures ∙ c.in-Some.is))

pub returns-in-None : goal.returns-in-None
returns-in-None c = sym (told-other c.args.m c.args.l (sym c.carried_by.ensures ∙ c.in-None.is))
