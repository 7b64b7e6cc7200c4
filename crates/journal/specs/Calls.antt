-- Writing, reading and appending to a journal as calls: what each answers and leaves. A refused call leaves every lent byte as it was and answers why;
-- of a bad frame the offset of its first byte and what is wrong with it. Refusals in their order: OutOfRange, M not 1 to 4,096, or a run of totals that
-- isn't 8M bytes; in writing BadEntry, an entry outside its rules, and TooMany, past 4,096 entries; in reading BadFrame, the first bad frame; NoRoom, the
-- result doesn't fit.
-- Assumes nothing.
use Rattle.std.specs.Prelude.{Bool, true, not, List, [], ◌∷◌, ℕ, ◌+◌, ◌-◌, ◌*◌, eqb, leb, ltb, length, drop, Some, None, Result, Ok, Err}
use Rattle.std.specs.Result.{result_and}
use Rattle.numbers.specs.Words.{when◌then◌else◌, ◌and◌}
use Rattle.numbers.specs.Numbers.{big, within, over}
use Rattle.numbers.specs.Cells.{cells, packed}
use Rattle.entries.specs.Entries.{encode_entry, entries, run_count, run_ok}
use Rattle.entries.specs.Places.{entry_place, result_place}
use Rattle.entries.specs.declared.Entry.{Entry}
use Rattle.fees.specs.Results.{outcomes}
use Rattle.model.specs.Book.{through}
use Rattle.layout.specs.Layout.{total_of}
use Rattle.safety.specs.Money.{sum}
use Rattle.journal.specs.Journal.{frames_after, no_totals, journal, framed_entry, framed_result, filed}
use Rattle.journal.specs.Examining.{form_fault, examined}
use Rattle.journal.specs.declared.Examined.{Examined}
use Rattle.journal.specs.declared.Framed.{Framed}
use Rattle.journal.specs.declared.refusal.Fault.{Fault}
use Rattle.journal.specs.declared.refusal.Fault.TheVariants as wrong
use Rattle.journal.specs.declared.refusal.JournalRefusal.{JournalRefusal}
use Rattle.journal.specs.declared.refusal.JournalRefusal.TheVariants as refused

-- ---- writing and appending

-- what a call that writes frames leaves, and how many bytes it wrote
pub record LeftWritten : Type 0 where
  pub answer : Result ℕ JournalRefusal
  pub area : List ℕ

abbrev pub not_written : JournalRefusal → (area : List ℕ) → LeftWritten
not_written why area = record { answer = Err why; area = area }

-- the bytes w at the front of the area, where they fit
unfoldable pub writing : (w area : List ℕ) → LeftWritten
writing w area =
    when ltb (length area) (length w) then not_written refused.NoRoom area else
    record { answer = Ok (length w); area = over w area }

unfoldable pub write_call : (M : ℕ) (run area : List ℕ) → LeftWritten
write_call M run area =
    when not (within 1 4096 M) then not_written refused.OutOfRange area else
    when not (run_ok run) then not_written refused.BadEntry area else
    when ltb 4096 (run_count run) then not_written refused.TooMany area else
    writing (journal M (entries (run_count run) run)) area

-- the frames of ops from + 1 to `to` out of a replica's log and results
unfoldable pub frames_in : (from to : ℕ) (log results : List ℕ) → List ℕ
frames_in from to log results =
    frames_after from (entries (to - from) (drop (entry_place from) log)) (outcomes (to - from) (drop (result_place from) results))

-- they are there; else OutOfRange
unfoldable pub ops_there : (from to : ℕ) (log results : List ℕ) → Bool
ops_there from to log results =
    leb from to and leb to 4096 and leb (entry_place to) (length log) and leb (result_place to) (length results)

unfoldable pub append_call : (from to : ℕ) (log results area : List ℕ) → LeftWritten
append_call from to log results area =
    when not (ops_there from to log results) then not_written refused.OutOfRange area else
    writing (frames_in from to log results) area

-- ---- reading

-- what reading leaves, the area for the entries and the run of totals, and how many entries it read
pub record LeftRead : Type 0 where
  pub answer : Result ℕ JournalRefusal
  pub area : List ℕ
  pub totals : List ℕ

abbrev pub not_read : JournalRefusal → (area totals : List ℕ) → LeftRead
not_read why area totals = record { answer = Err why; area = area; totals = totals }

-- a file that is good: its entries over the front of the area, where they fit, and the members' totals after them
unfoldable pub read_into : (M : ℕ) → List Entry → (area totals : List ℕ) → LeftRead
read_into M es area totals =
    when ltb (length area) (32 * length es) then not_read refused.NoRoom area totals else
    record {
      answer = Ok (length es);
      area = over (packed encode_entry es) area;
      totals = packed (big 8) (through (no_totals M) es);
    }

unfoldable pub read_examined : (M : ℕ) → Examined → (file area totals : List ℕ) → LeftRead
read_examined M j file area totals =
    elim j.fault [
      | None ↦ read_into M (filed j.frames file) area totals
      | Some f ↦ not_read (refused.BadFrame (50 * j.frames) f) area totals
    ]

-- M totals in a run
unfoldable pub totals_there : (M : ℕ) (totals : List ℕ) → Bool
totals_there M totals = within 1 4096 M and eqb (length totals) (8 * M)

unfoldable pub read_call : (M : ℕ) (file area totals : List ℕ) → LeftRead
read_call M file area totals =
    when not (totals_there M totals) then not_read refused.OutOfRange area totals else
    read_examined M (examined M file) file area totals

-- ---- looking at a journal

-- what stands in frame number i + 1 of a file, whatever the fee rules say of it; or what is wrong with its form
unfoldable pub frame_in : (i : ℕ) (file : List ℕ) → Result Framed Fault
frame_in i file =
    when leb 4096 i then Err wrong.PastLast else
    result_and (form_fault (i + 1) (drop (50 * i) file))
    (Ok (record { entry = framed_entry (drop (50 * i) file); outcome = framed_result (drop (50 * i) file) }))

-- no total above 1,000,000,000
unfoldable pub all_small : (ts : List ℕ) → Bool
all_small [] = true
all_small (t ∷ ts) = leb t 1000000000 and all_small ts

-- the takings: all totals added up. OutOfRange also where one is above 1,000,000,000, which no fee rule gives
unfoldable pub takings_of : (M : ℕ) (totals : List ℕ) → Result ℕ JournalRefusal
takings_of M totals =
    when not (totals_there M totals) then Err refused.OutOfRange else
    when not (all_small (cells 8 total_of M totals)) then Err refused.OutOfRange else
    Ok (sum (cells 8 total_of M totals))
