-- `comparing::words::byte` meets its contract. Assumes nothing.
use native.Mathlib.Nat.{mod-add-mod}
use Rattle.comparing.specs.Text.{byte_at}
use Rattle.comparing.proofs.words.byte.Goals as goal

pub returns : goal.returns
unfolding byte_at
returns c = rw (c.digit-high.ensures.0, c.digit-low.ensures.0) (mod-add-mod _ _ _)
