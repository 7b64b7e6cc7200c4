-- Document 02, order 6, the sentence itself: the row of a client whose last log entry is committed holds that entry's outcome and total, and else no
-- reply. With its other half, that a client of the log has one row, with the number of its last entry, and no one else has any, it fixes the table.
-- Assumes nothing.
use Rattle.std.specs.Prelude.{ℕ, ◌<◌, ◌≡◌, true, List, [], ltb, length, get_or}
use Rattle.std.proofs.Math.Option.{Option, none, some}
use Rattle.numbers.specs.Words.{when◌then◌else◌}
use Rattle.entries.specs.declared.Entry.{Entry}
use Rattle.fees.specs.declared.Outcome.{Outcome}
use Rattle.model.specs.State.{Book}
use Rattle.model.specs.Book.{find}

-- The entry at place i is the last one of its client in the log. Here and below d and o stand for what is read past a list's end, where nothing looks.
pub record LastAt (log : List Entry) (i : ℕ) : Type 0 where
  pub inside : i < length log
  pub none-later : (d : Entry) (j : ℕ) → i < j → j < length log → (get_or log j d).client ≡ (get_or log i d).client → ⊥

-- no entry of the log is the client's
abbrev pub NoneOf : List Entry → (client : ℕ) → Type 0
NoneOf log c = (d : Entry) (j : ℕ) → j < length log → (get_or log j d).client ≡ c → ⊥

-- what the entry at place i gave, if it is committed
unfoldable pub gave_at : List Outcome → (commit i : ℕ) → Outcome → Option Outcome
gave_at results commit i o = when ltb i commit then some (get_or results i o) else none

-- the sentence
pub record Remembers (b : Book) : Type 0 where
  pub clients :
      (d : Entry) (o : Outcome) (i : ℕ) → LastAt b.log i
      → find b.table (get_or b.log i d).client
      ≡ record { there = true; request = (get_or b.log i d).request; kept = gave_at b.results b.commit i o }
  pub no-others : (c : ℕ) → NoneOf b.log c → find b.table c ≡ find [] c
