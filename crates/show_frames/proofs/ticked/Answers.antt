-- Two Commits of 15 bytes fill the 30 bytes.
use Rattle.std.proofs.Common.{lit<, lit≤}
use Rattle.writers.specs.Writers.{size_of, length_of}
use Rattle.show_frames.proofs.ticked.Goals as goal

pub broadcast-requires : goal.broadcast-requires
unfolding size_of length_of
broadcast-requires g c = (lit< tt, (lit≤ tt, (lit≤ tt, lit≤ tt)))
