-- What a statement opens so that antt computes it: all definitions of writing and reading a journal, and of those that they rest on. Assumes nothing.
use Rattle.model.proofs.Open.{open-book, open-sending, open-frames}
use Rattle.numbers.specs.Numbers.{over, put_at}
use Rattle.entries.specs.Entries.{run_ok}
use Rattle.fees.specs.Results.{result_of, encode_result}
use Rattle.journal.specs.Journal.{journal_frame, frames_after, journal}
use Rattle.journal.specs.Examining.{form_fault, result_fault, fault, examined_after, examined}
use Rattle.journal.specs.Calls.{writing, write_call, read_into, read_examined, totals_there, read_call}
use Rattle.against_rust.specs.Shape.{hex}
use Rattle.recorded_journal.specs.Shape.{lent_bytes, times, journal_for, recorded_as, writing_of, all_written, none_written, reading_of, all_read, none_read}

unfoldable pub open-journals : Unit {0}
unfolding open-book open-sending open-frames over put_at result_of encode_result journal_frame frames_after journal form_fault result_fault fault examined_after examined writing run_ok write_call read_into read_examined totals_there read_call hex lent_bytes times journal_for recorded_as writing_of all_written none_written reading_of all_read none_read
open-journals = tt
