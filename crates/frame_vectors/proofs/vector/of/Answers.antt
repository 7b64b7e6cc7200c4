-- The writer's bytes over zeros; the run is the one that it was lent.
use Rattle.std.proofs.Common.{ap, ◌∙◌}
use Rattle.frame_vectors.specs.Vectors.{tried_frame, vector_of}
use Rattle.frame_vectors.proofs.VectorLaws.{wrote-vector}
use Rattle.frame_vectors.proofs.vector.of.Goals as goal

pub returns : goal.returns
returns c = wrote-vector _ c.written-len.ensures ∙ ap (λ run. vector_of (tried_frame run c.args.m)) c.entries_run-run.ensures
