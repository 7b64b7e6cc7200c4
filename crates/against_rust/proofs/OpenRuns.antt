-- What a statement opens so that antt computes it: all definitions of a file, and of those that it rests on. Assumes nothing.
use Rattle.model.proofs.Open.{open-steps}
use Rattle.against_rust.specs.Shape.{hex, saw_all, saw_sum, saw, run, flag, bits_of, numbers_of, numbers_like, fnv_from, fnv, kept_bytes, row_bytes, digests_of, held_bytes, report_bytes, response_bytes, stored_bytes, kept_of, kept_like, digests_like, takings_like, shown, wanted, all_wanted, answer, seen, seen_from, starts}

unfoldable pub open-runs : Unit {0}
unfolding open-steps hex saw_all saw_sum saw run flag bits_of numbers_of numbers_like fnv_from fnv kept_bytes row_bytes digests_of held_bytes report_bytes response_bytes stored_bytes kept_of kept_like digests_like takings_like shown wanted all_wanted answer seen seen_from starts
open-runs = tt
