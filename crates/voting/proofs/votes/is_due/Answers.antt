-- `voting::votes::is_due` meets its contract. Assumes nothing.
use mathlib.Core.Bool.{not}
use mathlib.Core.Path.{ap}
use Rattle.voting.proofs.VoteLaws.{stays, catches-up, went-out, counts}
use Rattle.voting.proofs.votes.is_due.Goals as goal

pub returns-then-not-is_changing : goal.returns-then-not-is_changing
returns-then-not-is_changing c = stays c.args.t _ c.is_changing.ensures (ap not c.if-not-is_changing.true)

pub returns-then-t : goal.returns-then-t
returns-then-t c =
    catches-up c.args.t _ c.is_changing.ensures (ap not c.if-not-is_changing.false) c.if-t.true

pub returns-then-t-2 : goal.returns-then-t-2
returns-then-t-2 c =
    went-out c.args.t _ c.is_changing.ensures (ap not c.if-not-is_changing.false) c.if-t.false c.if-t-2.true

pub returns : goal.returns
returns c =
    counts c.args.t _ c.is_changing.ensures (ap not c.if-not-is_changing.false) c.if-t.false c.if-t-2.false _ c.count.ensures
