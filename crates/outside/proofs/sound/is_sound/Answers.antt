-- `outside::sound::is_sound` meets its contract. Assumes nothing.
use mathlib.Core.Bool.{not}
use mathlib.Core.Path.{ap}
use mathlib.Core.Path.{sym, ◌∙◌}
use Rattle.numbers.proofs.WordLaws.{if-true, if-false}
use Rattle.outside.specs.Sound.{sound}
use Rattle.outside.proofs.SoundLaws.{creatable-is}
use Rattle.outside.proofs.sound.is_sound.Goals as goal

pub returns-then-not-is_creatable : goal.returns-then-not-is_creatable
unfolding sound
returns-then-not-is_creatable c = let k = c.is_creatable in sym (if-false _ _ _ (sym k.ensures ∙ c.if-not-is_creatable.true))

pub numbers_sound-requires : goal.numbers_sound-requires
numbers_sound-requires c = let a = c.args in let k = c.is_creatable in (creatable-is a.s.setup a.l k.result k.ensures (ap not c.if-not-is_creatable.false)).0

pub returns : goal.returns
unfolding sound
returns c = let k = c.is_creatable in c.numbers_sound.ensures ∙ sym (if-true _ _ _ (sym k.ensures ∙ c.if-not-is_creatable.false))
