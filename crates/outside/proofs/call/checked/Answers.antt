-- `outside::call::checked` meets its contract. Assumes nothing.
use mathlib.Core.Bool.{not}
use mathlib.Core.Path.{ap}
use Rattle.outside.proofs.CallLaws.{unsound, is-checked}
use Rattle.outside.proofs.CheckedLaws.{checks-call}
use Rattle.outside.proofs.call.checked.Goals as goal

pub returns-then-not-is_sound : goal.returns-then-not-is_sound
returns-then-not-is_sound c = checks-call _ _ _ _ (unsound c.args.s c.args.l c.args.frame.now c.is_sound.result c.is_sound.ensures (ap not c.if-not-is_sound.true))

pub returns : goal.returns
returns c = checks-call _ _ _ _ (is-checked c.args.s c.args.l c.args.frame.now c.is_sound.result c.is_sound.ensures (ap not c.if-not-is_sound.false) c.check.ensures.exact)
