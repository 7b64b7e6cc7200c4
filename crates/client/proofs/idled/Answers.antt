-- `client::idled` meets its contract. Assumes nothing.
use mathlib.Core.Path.{sym, ◌∙◌}
use Rattle.std.proofs.lemmas.Result.{err_from_is_err_and}
use Rattle.client.proofs.RefusalLaws.{idle-fits}
use Rattle.client.proofs.StepLaws.{idle-refused, idle-nothing, idle-waiting}
use Rattle.client.proofs.idled.Goals as goal

pub send_all-requires : goal.send_all-requires
send_all-requires c = idle-fits _ _ _ (sym c.may_idle.ensures ∙ c.in_ok-may_idle.was) c.in-Some.is

pub returns-in-None : goal.returns-in-None
returns-in-None c = idle-nothing _ _ (sym c.may_idle.ensures ∙ c.in_ok-may_idle.was) c.in-None.is

pub returns-in-Some : goal.returns-in-Some
returns-in-Some c = idle-waiting _ _ (sym c.may_idle.ensures ∙ c.in_ok-may_idle.was) _ _ c.in-Some.is c.send_all.ensures

pub returns-in_err-may_idle : goal.returns-in_err-may_idle
returns-in_err-may_idle c =
    let p = err_from_is_err_and c.from_residual.result c.from_residual.ensures.1 in
    rw (p.1, p.2) (idle-refused _ _ (sym c.may_idle.ensures ∙ c.in_err-may_idle.was))
