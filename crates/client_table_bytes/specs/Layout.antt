-- The client table in lent bytes, 25 a row: client 8, request 8, mark 1, total 8. The mark says what the row is: 0 unused; 1 to 6 in use, and this
-- is the outcome of the reply that is kept, whose total follows; any other value in use, and no reply is kept (a fresh row has 255). The other 24
-- bytes of an unused row, and the total of a row that keeps no reply, say nothing and are looked at by nothing. They are the one exception to "a byte
-- without meaning is refusal 1": to refuse them, each call would have to look at all 25 L bytes. Assumes nothing.
use Rattle.std.specs.Prelude.{not, List, ◌++◌, ℕ, ◌*◌, eqb, drop}
use Rattle.numbers.specs.Numbers.{big, num}
use Rattle.numbers.specs.Cells.{cells}
use Rattle.entries.specs.declared.Entry.{Entry}
use Rattle.client_table.specs.Shape.{Shape}
use Rattle.client_table.specs.Latest.{kept_of}
use Rattle.client_table_bytes.specs.declared.MarkedRow.{MarkedRow}

-- an unused row
abbrev pub no_row : MarkedRow
no_row = record { client = 0; request = 0; mark = 0; total = 0 }

-- the row of an entry, with a mark and a total
abbrev pub row_with : Entry → ℕ → ℕ → MarkedRow
row_with e mark total = record { client = e.client; request = e.request; mark = mark; total = total }

-- of an entry that has no reply yet
abbrev pub fresh_of : Entry → MarkedRow
fresh_of e = row_with e 255 0

-- what the table asks of a row, of one in bytes
abbrev pub byte_row : Shape MarkedRow
byte_row =
    record {
      used = λ x. not (eqb x.mark 0);
      client = λ x. x.client;
      request = λ x. x.request;
      kept = λ x. kept_of x.mark x.total;
      blank = no_row;
      fresh = fresh_of;
      answered = λ e o. row_with e o.code o.total;
    }

-- the row that the first 25 bytes stand for
unfoldable pub row_of : List ℕ → MarkedRow
row_of s = record { client = num 8 0 s; request = num 8 8 s; mark = num 1 16 s; total = num 8 17 s }

-- a row's bytes
unfoldable pub encode_row : MarkedRow → List ℕ
encode_row r = big 8 r.client ++ big 8 r.request ++ big 1 r.mark ++ big 8 r.total

-- the first n rows of a run
abbrev pub rows_of : ℕ → List ℕ → List MarkedRow
rows_of n s = cells 25 row_of n s

-- and what stands behind them
abbrev pub rest_of : ℕ → List ℕ → List ℕ
rest_of n s = drop (25 * n) s
