-- `outside::takings::takings` meets its contract. Assumes nothing.
use mathlib.Core.Path.{sym, ◌∙◌}
use Rattle.numbers.proofs.WordLaws.{if-true, if-false}
use Rattle.outside.specs.Takings.{takings_call}
use Rattle.outside.proofs.takings.takings.Goals as goal

pub returns-then-not-is_state_sound : goal.returns-then-not-is_state_sound
unfolding takings_call
returns-then-not-is_state_sound c = let k = c.is_state_sound in sym (if-false _ _ _ (sym k.ensures ∙ c.if-not-is_state_sound.true))

pub returns : goal.returns
unfolding takings_call
returns c = let k = c.is_state_sound in sym (if-true _ _ _ (sym k.ensures ∙ c.if-not-is_state_sound.false))
