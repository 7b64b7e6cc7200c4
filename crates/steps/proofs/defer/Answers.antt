-- `steps::defer` meets its contract. Assumes nothing.
use mathlib.Core.Path.{◌∙◌}
use Rattle.steps.specs.Steps.{deferred}
use Rattle.steps.proofs.defer.Goals as goal

pub returns-in-Ignore : goal.returns-in-Ignore
unfolding deferred
returns-in-Ignore c = rw (c.in-Ignore.is, c.done.ensures)

pub returns-in-Hear : goal.returns-in-Hear
unfolding deferred
returns-in-Hear c = rw (c.in-Hear.is, c.done-in-Hear.ensures, c.heard.ensures)

pub returns-in-Join : goal.returns-in-Join
unfolding deferred
returns-in-Join c = c.ask_state.ensures ∙ rw (c.in-Join.is, c.catching_up_in.ensures)

pub returns-in-Rejoin : goal.returns-in-Rejoin
unfolding deferred
returns-in-Rejoin c = c.ask_state-in-Rejoin.ensures ∙ rw (c.in-Rejoin.is, c.catching_up_in-in-Rejoin.ensures, c.heard-in-Rejoin.ensures)

pub returns-in-Take : goal.returns-in-Take
unfolding deferred
returns-in-Take c = rw (c.in-Take.is, c.done-in-Take.ensures)
