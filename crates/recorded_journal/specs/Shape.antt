-- What a recorded call on journals is, and what it says of the definitions: that they answer just so, and leave what is lent just so.
-- The fields are those of ../shared/vectors/orders/FORMAT.md, in its order. Assumes nothing.
use Rattle.std.specs.Prelude.{List, [], ◌∷◌, ◌++◌, ℕ, zero, suc, ◌-◌, ◌*◌, length, replicate, Result, Ok, Err}
use Rattle.numbers.specs.Numbers.{big}
use Rattle.numbers.specs.Cells.{packed}
use Rattle.entries.specs.Entries.{entries, run_count}
use Rattle.journal.specs.Journal.{journal}
use Rattle.journal.specs.Calls.{LeftWritten, write_call, LeftRead, read_call}
use Rattle.journal.specs.Refusals.{refusal_number, bad_offset, bad_fault}
use Rattle.journal.specs.declared.refusal.JournalRefusal.{JournalRefusal}

-- What is lent is filled with a byte other than 0: what a call leaves as it was differs from a 0 that it writes.
unfoldable pub lent_bytes : ℕ → List ℕ
lent_bytes k = replicate k 165

-- so many times over, and the journal that writing gives for a run of entries
unfoldable pub times : ℕ → List ℕ → List ℕ
times zero s = []
times (suc k) s = s ++ times k s

unfoldable pub journal_for : (M : ℕ) (run : List ℕ) → List ℕ
journal_for M run = journal M (entries (run_count run) run)

-- an answer as it is recorded: the refusal's number, 0 where the call is done; what was counted, 0 with a refusal; and of a bad frame the offset of its
-- first byte and what is wrong with it, 0 with any other answer
unfoldable pub recorded_as : Result ℕ JournalRefusal → List ℕ
recorded_as (Ok n) = 0 ∷ n ∷ 0 ∷ 0 ∷ []
recorded_as (Err why) = refusal_number why ∷ 0 ∷ bad_offset why ∷ bad_fault why ∷ []

-- ---- writing: M, the bytes of room for the journal, the entries

pub record ToWrite : Type 0 where
  pub members : ℕ
  pub room : ℕ
  pub run : List ℕ

abbrev pub to_write : (M room : ℕ) (run : List ℕ) → ToWrite
to_write M k run = record { members = M; room = k; run = run }

-- what a call that writes answered, and what it left
pub record WriteRecorded : Type 0 where
  pub answer : List ℕ
  pub area : List ℕ

abbrev pub written_as : LeftWritten → WriteRecorded
written_as d = record { answer = recorded_as d.answer; area = d.area }

unfoldable pub writing_of : ToWrite → WriteRecorded
writing_of w = written_as (write_call w.members w.run (lent_bytes w.room))

-- these bytes, and behind them the rest of the room as it was
unfoldable pub all_written : (room : ℕ) (bytes : List ℕ) → WriteRecorded
all_written k s = record { answer = 0 ∷ length s ∷ 0 ∷ 0 ∷ []; area = s ++ lent_bytes (k - length s) }

unfoldable pub none_written : (code room : ℕ) → WriteRecorded
none_written c k = record { answer = c ∷ 0 ∷ 0 ∷ 0 ∷ []; area = lent_bytes k }

-- ---- reading: M, the bytes of room for entries, the file. The run of totals has its right length.

pub record ToRead : Type 0 where
  pub members : ℕ
  pub room : ℕ
  pub file : List ℕ

abbrev pub to_read : (M room : ℕ) (file : List ℕ) → ToRead
to_read M k file = record { members = M; room = k; file = file }

-- what a reading answered, and what it left
pub record ReadRecorded : Type 0 where
  pub answer : List ℕ
  pub area : List ℕ
  pub totals : List ℕ

abbrev pub read_as : LeftRead → ReadRecorded
read_as d = record { answer = recorded_as d.answer; area = d.area; totals = d.totals }

unfoldable pub reading_of : ToRead → ReadRecorded
reading_of r = read_as (read_call r.members r.file (lent_bytes r.room) (lent_bytes (8 * r.members)))

-- these entries, and the totals of the first members, those behind them having 0
unfoldable pub all_read : (M room : ℕ) (run totals : List ℕ) → ReadRecorded
all_read M k s ts =
    record {
      answer = 0 ∷ run_count s ∷ 0 ∷ 0 ∷ [];
      area = s ++ lent_bytes (k - length s);
      totals = packed (big 8) (ts ++ replicate (M - length ts) 0);
    }

unfoldable pub none_read : (code offset fault M room : ℕ) → ReadRecorded
none_read c p f M k = record { answer = c ∷ 0 ∷ p ∷ f ∷ []; area = lent_bytes k; totals = lent_bytes (8 * M) }
