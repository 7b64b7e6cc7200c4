-- The length alone changes.
use Rattle.std.proofs.Common.{refl}
use Rattle.frame_vectors.specs.Vectors.{cut_to}
use Rattle.frame_vectors.proofs.vector.cut.Goals as goal

pub returns : goal.returns
unfolding cut_to
returns c = refl
