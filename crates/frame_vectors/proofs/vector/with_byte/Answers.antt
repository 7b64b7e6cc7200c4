-- The bytes of the vector with one put at a place.
use Rattle.std.proofs.Common.{[], ◌∷◌}
use Rattle.frame_vectors.proofs.VectorLaws.{with-told}
use Rattle.frame_vectors.proofs.vector.with_byte.Goals as goal

pub returns : goal.returns
returns c = with-told c.args.v c.args.at (c.args.b ∷ []) c.put_byte.ensures
