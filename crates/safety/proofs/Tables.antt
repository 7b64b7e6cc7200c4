-- The client table of a log, of its results and of its commit number: it is as the sentence of document 02, order 6, says.
--     remembered    a book with that table keeps the sentence; whether its log rises doesn't matter
--     none-such     an entry to be read past a log's end
-- Assumes nothing.
use Prim.Native.Nat.{◌≤◌}
use mathlib.Core.Path.{◌≡◌, ap, ◌∙◌}
use mathlib.Core.List.{List}
use lib.ListN.{length, get_or}
use Rattle.entries.specs.declared.Entry.{Entry}
use Rattle.model.specs.State.{ClientEntry, Book}
use Rattle.model.specs.Book.{find, table_of}
use Rattle.model.proofs.TableOf.{table_none, table-last}
use Rattle.safety.specs.Remembered.{gave_at, Remembers}

-- read past a log's end, where no law looks
abbrev pub none-such : Entry
none-such = record { client = 0; request = 0; operation = 0; member = 0; cents = 0 }

-- each committed entry has its result
pub remembered : (b : Book) → b.commit ≤ length b.results → b.table ≡ table_of b.log b.results b.commit → Remembers b
unfolding gave_at
remembered b h p =
    record {
      clients =
          λ d o i l. ap (λ (t : List ClientEntry). find t (get_or b.log i d).client) p
          ∙ table-last b.log b.results b.commit d o i h l.inside (l.none-later d);
      no-others = λ c n. ap (λ (t : List ClientEntry). find t c) p ∙ table_none b.log b.results b.commit c none-such (n none-such);
    }
