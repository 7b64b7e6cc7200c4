-- What a statement opens so that antt computes it: all definitions of a file, and of those that it rests on. Assumes nothing.
use Rattle.model.proofs.Open.{open-steps}
use Rattle.numbers.specs.Numbers.{over}
use Rattle.against_rust.specs.Shape.{hex, flag}
use Rattle.client.specs.Client.{create_of, may_request, requested_of, requested_area, raised_view, awaits, left_pending, replied_of, frames_to, frames_again, may_idle, idled_of, idled_area}
use Rattle.against_rust.specs.ClientShape.{lent, saw, run, pending_number, known, wanted, all_wanted, after_line, shown, seen, seen_from, starts}

unfoldable pub open-client-runs : Unit {0}
unfolding open-steps over hex flag create_of may_request requested_of requested_area raised_view awaits left_pending replied_of frames_to frames_again may_idle idled_of idled_area lent saw run pending_number known wanted all_wanted after_line shown seen seen_from starts
open-client-runs = tt
