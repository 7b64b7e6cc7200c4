-- `frames::offset::fits` meets its contract. Assumes nothing.
use Rattle.numbers.specs.Words.{◌and◌}
use Rattle.frames.specs.FrameRules.{fits}
use Rattle.frames.proofs.KindLaws.{kind-within}
use Rattle.frames.proofs.offset.fits.Goals as goal

pub returns : goal.returns
unfolding fits ◌and◌
returns c = rw (kind-within c.args.kind, ← c.count_for.ensures.0, ← c.entries_from.ensures.0)
