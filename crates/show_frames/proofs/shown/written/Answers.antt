-- The tests of the length leave room for the entries, which are a part of it.
use Rattle.std.proofs.Common.{arith}
use Rattle.writers.specs.Writers.{length_of}
use Rattle.show_frames.proofs.shown.written.Goals as goal

pub write_frame-requires : goal.write_frame-requires
unfolding length_of
write_frame-requires c = record { few = omega arith; log = omega arith; fits = omega arith }
