-- `comparing::words::with_digit` meets its contract. Assumes nothing.
use native.Mathlib.Nat.{mod-add-mod}
use Rattle.comparing.proofs.words.with_digit.Goals.{then-hex, else-hex}
use Rattle.comparing.specs.Text.{with_digit, base_of}
use Rattle.comparing.proofs.words.with_digit.Goals as goal

pub returns : goal.returns
unfolding with_digit base_of
returns c = elim c.if-hex.branch [ then-hex w ↦ rw (w.if-hex.true, w.base-is, c.from.ensures, c.digit.ensures.0) (mod-add-mod _ _ _) | else-hex w ↦ rw (w.if-hex.false, w.base-is, c.from.ensures, c.digit.ensures.0) (mod-add-mod _ _ _) ]
