-- The bytes of the vector with four put at a place.
use Rattle.numbers.specs.Numbers.{big}
use Rattle.frame_vectors.proofs.VectorLaws.{with-told}
use Rattle.frame_vectors.proofs.vector.with_long.Goals as goal

pub returns : goal.returns
returns c = with-told c.args.v c.args.at (big 4 c.args.x) c.put_long.ensures
