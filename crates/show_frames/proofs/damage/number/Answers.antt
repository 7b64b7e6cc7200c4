-- What `check` answers is one of the two forms, and each has its number.
use Rattle.std.proofs.Common.{ap, ◌∙◌}
use Rattle.frames.specs.Refusals.{check_frame}
use Rattle.show_frames.specs.Shown.{number_shown}
use Rattle.show_frames.proofs.damage.number.Goals as goal

pub returns-in-Ok : goal.returns-in-Ok
unfolding number_shown
returns-in-Ok c = ap number_shown (c.in-Ok.ensures.exact ∙ ap (λ u. check_frame u c.args.frame.now) c.setup.ensures)

pub returns-in-Err : goal.returns-in-Err
unfolding number_shown
returns-in-Err c = c.from.ensures ∙ ap number_shown (c.in-Err.ensures.exact ∙ ap (λ u. check_frame u c.args.frame.now) c.setup.ensures)
