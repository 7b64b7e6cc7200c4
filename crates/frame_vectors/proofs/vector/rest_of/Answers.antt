-- The lengths of a vector that has a length field, and the others.
use Rattle.std.proofs.Common.{arith}
use Rattle.numbers.specs.Words.{when◌then◌else◌}
use Rattle.frame_vectors.specs.Vectors.{fitted_length}
use Rattle.frame_vectors.proofs.vector.rest_of.Goals as goal

pub returns-in-4-to-192 : goal.returns-in-4-to-192
unfolding fitted_length when◌then◌else◌
returns-in-4-to-192 c = grind arith

pub returns-in_default : goal.returns-in_default
unfolding fitted_length when◌then◌else◌
returns-in_default c = grind arith

pub returns-in_default-2 : goal.returns-in_default-2
unfolding fitted_length when◌then◌else◌
returns-in_default-2 c = grind arith
