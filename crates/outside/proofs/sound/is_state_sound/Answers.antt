-- `outside::sound::is_state_sound` meets its contract. Assumes nothing.
use mathlib.Core.Path.{sym, ◌∙◌}
use Rattle.numbers.proofs.WordLaws.{if-true, if-false}
use Rattle.outside.specs.Sound.{state_sound}
use Rattle.outside.proofs.sound.is_state_sound.Goals as goal

pub returns-then-not-setup_ok : goal.returns-then-not-setup_ok
unfolding state_sound
returns-then-not-setup_ok c = let k = c.setup_ok in sym (if-false _ _ _ (sym k.ensures ∙ c.if-not-setup_ok.true))

pub returns : goal.returns
unfolding state_sound
returns c = let k = c.setup_ok in c.numbers_sound.ensures ∙ sym (if-true _ _ _ (sym k.ensures ∙ c.if-not-setup_ok.false))
