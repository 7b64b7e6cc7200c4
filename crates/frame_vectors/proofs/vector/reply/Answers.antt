-- The writer's bytes over zeros.
use Rattle.frame_vectors.proofs.VectorLaws.{wrote-vector}
use Rattle.frame_vectors.proofs.vector.reply.Goals as goal

pub returns : goal.returns
returns c = wrote-vector _ c.write_reply-len.ensures
