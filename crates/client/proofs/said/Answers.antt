-- `client::said` meets its contract: what precedes the outcome, then the outcome. Assumes nothing.
use mathlib.Core.Path.{sym, ◌∙◌}
use Rattle.client.proofs.ReplyLaws.{unframed, no-outcome, with-outcome}
use Rattle.client.proofs.said.Goals as goal

pub returns-then-not-framed : goal.returns-then-not-framed
returns-then-not-framed c = unframed _ (sym c.framed.ensures ∙ c.if-not-framed.true)

pub returns-in_err-outcome : goal.returns-in_err-outcome
returns-in_err-outcome c =
    rw c.from_residual.ensures
    (no-outcome c.args.frame.now (sym c.framed.ensures ∙ c.if-not-framed.false) c.try_from.result (rw (← c.read_u8.ensures) c.try_from.ensures)
    (sym c.ok.ensures.value ∙ c.in_err-outcome.was))

pub returns : goal.returns
returns c =
    rw (c.read_view.ensures, c.read_u64.ensures, c.read_u64-2.ensures, c.read_u64-3.ensures)
    (with-outcome c.args.frame.now (sym c.framed.ensures ∙ c.if-not-framed.false) c.try_from.result (rw (← c.read_u8.ensures) c.try_from.ensures)
    (sym c.ok.ensures.value ∙ c.in_ok-outcome.was))
