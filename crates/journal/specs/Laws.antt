-- What holds of writing and reading together: reading what was written gives the entries that were written; writing what was read gives the file that
-- was read; and the totals that reading gives are those that demand 3 speaks of. Assumes nothing.
use Rattle.std.specs.Prelude.{◌≡◌, List, ℕ, ◌+◌, ◌*◌, ◌≤◌, length, get_or, take, Ok, Err}
use Rattle.std.specs.Result.{result_unwrap_or}
use Rattle.numbers.specs.Numbers.{big, over}
use Rattle.numbers.specs.Cells.{cells, packed}
use Rattle.entries.specs.Entries.{entries, run_count}
use Rattle.entries.specs.declared.Entry.{Entry}
use Rattle.model.specs.Book.{through}
use Rattle.layout.specs.Layout.{total_of}
use Rattle.safety.specs.Money.{fees_of, refunds_of, all_fees, all_refunds, sum}
use Rattle.journal.specs.Journal.{no_totals}
use Rattle.journal.specs.declared.refusal.JournalRefusal.{JournalRefusal}
use Rattle.journal.specs.Calls.{LeftWritten, not_written, LeftRead, not_read, write_call, read_call, takings_of}

-- the bytes that a call wrote, and the run of entries that a call read: none, where it is refused
abbrev pub file_of : LeftWritten → List ℕ
file_of d = take (result_unwrap_or d.answer 0) d.area

abbrev pub entries_read : LeftRead → List ℕ
entries_read d = take (32 * result_unwrap_or d.answer 0) d.area

-- What was written of a run of entries is read back, into any area that holds them: the very run, and what the fee rules make of its entries from zero.
abbrev pub ReadsBack : (M : ℕ) (run area : List ℕ) → Type 0
ReadsBack M run area =
    (into totals : List ℕ) → length run ≤ length into → length totals ≡ 8 * M
    → read_call M (file_of (write_call M run area)) into totals
    ≡ record {
      answer = Ok (run_count run);
      area = over run into;
      totals = packed (big 8) (through (no_totals M) (entries (run_count run) run));
    }

-- What was read of a file is written again, into any area that holds it: the very file.
abbrev pub WritesBack : (M : ℕ) (file area totals : List ℕ) → Type 0
WritesBack M file area totals =
    (into : List ℕ) → length file ≤ length into
    → write_call M (entries_read (read_call M file area totals)) into ≡ record { answer = Ok (length file); area = over file into }

-- Totals are fees taken less refunds paid over a list of entries, each by itself and all added up, worked out from zero.
pub record Balanced (M : ℕ) (es : List Entry) (ts : List ℕ) : Type 0 where
  pub member-totals : (k : ℕ) → get_or ts k 0 + refunds_of k (no_totals M) es ≡ fees_of k (no_totals M) es
  pub sum-of-totals : sum ts + all_refunds (no_totals M) es ≡ all_fees (no_totals M) es

-- So are those that a reading leaves, of the entries that it leaves; and the takings of what it leaves are their sum.
pub record BalancedRead (M : ℕ) (d : LeftRead) : Type 0 where
  pub balanced : Balanced M (entries (result_unwrap_or d.answer 0) d.area) (cells 8 total_of M d.totals)
  pub takings : takings_of M d.totals ≡ Ok (sum (cells 8 total_of M d.totals))

-- Demand 1: a call that is refused leaves what was lent as it was.
abbrev pub UntouchedByWriting : (area : List ℕ) → LeftWritten → Type 0
UntouchedByWriting area d = (why : JournalRefusal) → d.answer ≡ Err why → d ≡ not_written why area

abbrev pub UntouchedByReading : (area totals : List ℕ) → LeftRead → Type 0
UntouchedByReading area totals d = (why : JournalRefusal) → d.answer ≡ Err why → d ≡ not_read why area totals
