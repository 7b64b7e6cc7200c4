-- `view_change::start_view_change::call_others` meets its contract. Assumes nothing.
use Rattle.view_change.proofs.StartViewChangeLaws.{calls-fit}
use Rattle.view_change.proofs.start_view_change.call_others.Goals as goal

pub broadcast-requires : goal.broadcast-requires
broadcast-requires c = let a = c.args in calls-fit a.s a.v c.requires.0 0 _ c.requires.1
