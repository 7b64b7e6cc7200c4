-- `writers::write_other` meets its contract. Assumes nothing.
use Rattle.numbers.proofs.RunLaws.{over-nil}
use borrow.Author.Tests.{eq-eqb, ne_eqb}
use mathlib.Core.Path.{refl}
use Rattle.numbers.specs.Words.{when◌then◌else◌}
use Rattle.writers.proofs.write_other.Goals as goal

pub returns-then-to-me : goal.returns-then-to-me
unfolding when◌then◌else◌
returns-then-to-me c = rw (eq-eqb _ _ c.if-to-me.true) (record { bytes = over-nil c.args.area.now; count = refl })

pub returns : goal.returns
unfolding when◌then◌else◌
returns c = rw (ne_eqb _ _ c.if-to-me.false) c.write_frame.ensures
