-- The number is written whole, then put at its place.
use Rattle.numbers.specs.Numbers.{big}
use Rattle.numbers.proofs.NumberLaws.{length-big}
use Rattle.frame_vectors.proofs.VectorLaws.{put-filled}
use Rattle.frame_vectors.proofs.vector.put_long.Goals as goal

pub returns : goal.returns
returns c = put-filled (big 4 c.args.x) _ _ c.args.at (length-big 4 c.args.x) c.write_u32.ensures c.store.ensures
