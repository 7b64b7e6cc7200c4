-- Demand 1 of the journal's calls: `write-untouched`, `append-untouched`, `read-untouched`. Assumes nothing.
use Rattle.std.specs.Prelude.{List, ℕ, ◌*◌, Option, Some, None}
use Rattle.numbers.proofs.WordLaws.{split}
use Rattle.entries.specs.declared.Entry.{Entry}
use Rattle.journal.specs.declared.refusal.Fault.{Fault}
use Rattle.journal.specs.declared.refusal.JournalRefusal.{JournalRefusal}
use Rattle.journal.specs.declared.refusal.JournalRefusal.TheVariants as refused
use Rattle.journal.specs.Examining.{examined_as, examined}
use Rattle.journal.specs.Calls.{not_written, writing, write_call, append_call}
use Rattle.journal.specs.Calls.{LeftRead, not_read, read_into, read_examined, read_call}
use Rattle.journal.specs.Laws.{UntouchedByWriting, UntouchedByReading}

module _ (area : List ℕ) where
  -- a refusal, and a call that is done
  none-written : (why : JournalRefusal) → UntouchedByWriting area (not_written why area)
  none-written why r e = λ i. record { answer = e i; area = area }

  writing-untouched : (w : List ℕ) → UntouchedByWriting area (writing w area)
  unfolding writing
  writing-untouched w = split (UntouchedByWriting area) _ _ _ (λ _. none-written refused.NoRoom) (λ _ r e. cc)

  pub write-untouched : (M : ℕ) (run : List ℕ) → UntouchedByWriting area (write_call M run area)
  unfolding write_call
  write-untouched M run =
      split (UntouchedByWriting area) _ _ _ (λ _. none-written refused.OutOfRange)
      (λ _.
      split (UntouchedByWriting area) _ _ _ (λ _. none-written refused.BadEntry)
      (λ _. split (UntouchedByWriting area) _ _ _ (λ _. none-written refused.TooMany) (λ _. writing-untouched _)))

  pub append-untouched : (from to : ℕ) (log results : List ℕ) → UntouchedByWriting area (append_call from to log results area)
  unfolding append_call
  append-untouched from to log results =
      split (UntouchedByWriting area) _ _ _ (λ _. none-written refused.OutOfRange) (λ _. writing-untouched _)

  module _ (totals : List ℕ) where
    abbrev Leaves : LeftRead → Type 0
    Leaves d = UntouchedByReading area totals d

    none-read : (why : JournalRefusal) → Leaves (not_read why area totals)
    none-read why r e = λ i. record { answer = e i; area = area; totals = totals }

    into-untouched : (M : ℕ) (es : List Entry) → Leaves (read_into M es area totals)
    unfolding read_into
    into-untouched M es = split Leaves _ _ _ (λ _. none-read refused.NoRoom) (λ _ r e. cc)

    examined-untouched : (M : ℕ) (file : List ℕ) (k : ℕ) (f : Option Fault) → Leaves (read_examined M (examined_as k f) file area totals)
    unfolding read_examined
    examined-untouched M file k None = into-untouched M _
    examined-untouched M file k (Some f) = none-read (refused.BadFrame (50 * k) f)

    pub read-untouched : (M : ℕ) (file : List ℕ) → Leaves (read_call M file area totals)
    unfolding read_call
    read-untouched M file =
        split Leaves _ _ _ (λ _. none-read refused.OutOfRange)
        (λ _. examined-untouched M file (examined M file).frames (examined M file).fault)
