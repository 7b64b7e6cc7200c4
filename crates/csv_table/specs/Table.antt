-- Document 02, the treasurer's table of entries: a header row `op,client,request,kind,member,cents`, then a row for each entry: op running 1, 2, 3, and the
-- entry's numbers in decimal without leading zeros, the kind as fee, refund or ask. Export writes it with no quotes and every CRLF. Assumes nothing.
use Rattle.std.specs.Prelude.{List, [], ◌∷◌, ◌++◌, ℕ, suc, eqb}
use Rattle.numbers.specs.Words.{when◌then◌else◌, All}
use Rattle.numbers.specs.Cells.{packed}
use Rattle.entries.specs.Entries.{Sendable}
use Rattle.entries.specs.declared.Entry.{Entry}
use Rattle.decimal.specs.Decimal.{decimal}
use Rattle.csv_table.specs.Rows.{comma, crlf, FileText}

-- the words of the header, in ASCII
unfoldable pub header_words : List (List ℕ)
header_words =
    (111 ∷ 112 ∷ [])  -- op
    ∷ (99 ∷ 108 ∷ 105 ∷ 101 ∷ 110 ∷ 116 ∷ [])  -- client
    ∷ (114 ∷ 101 ∷ 113 ∷ 117 ∷ 101 ∷ 115 ∷ 116 ∷ [])  -- request
    ∷ (107 ∷ 105 ∷ 110 ∷ 100 ∷ [])  -- kind
    ∷ (109 ∷ 101 ∷ 109 ∷ 98 ∷ 101 ∷ 114 ∷ [])  -- member
    ∷ (99 ∷ 101 ∷ 110 ∷ 116 ∷ 115 ∷ [])  -- cents
    ∷ []

-- the word of an operation's number: fee, refund, ask
unfoldable pub kind_word : ℕ → List ℕ
kind_word k =
    when eqb k 1 then 102 ∷ 101 ∷ 101 ∷ [] else
    when eqb k 2 then 114 ∷ 101 ∷ 102 ∷ 117 ∷ 110 ∷ 100 ∷ [] else
    97 ∷ 115 ∷ 107 ∷ []

-- the fields of the entry with this op
unfoldable pub entry_fields : (op : ℕ) → Entry → List (List ℕ)
entry_fields op e =
    decimal op ∷ decimal e.client ∷ decimal e.request ∷ kind_word e.operation ∷ decimal e.member ∷ decimal e.cents ∷ []

-- the rows of entries behind those of the first i
unfoldable pub entry_rows_after : (i : ℕ) → List Entry → List (List (List ℕ))
entry_rows_after i [] = []
entry_rows_after i (e ∷ es) = entry_fields (suc i) e ∷ entry_rows_after (suc i) es

unfoldable pub table : List Entry → List (List (List ℕ))
table es = header_words ∷ entry_rows_after 0 es

-- a row as export writes it: the fields as they are, parted by commas, and CRLF
unfoldable pub joined_fields : List (List ℕ) → List ℕ
joined_fields [] = []
joined_fields (f ∷ []) = f
joined_fields (f ∷ g ∷ fs) = f ++ comma ∷ joined_fields (g ∷ fs)

unfoldable pub plain_row : List (List ℕ) → List ℕ
plain_row fs = joined_fields fs ++ crlf

-- the whole table as export writes it
unfoldable pub exported : List Entry → List ℕ
exported es = packed plain_row (table es)

-- A file that is such a table, of these entries.
pub record IsTable (es : List Entry) (file : List ℕ) : Type 0 where
  pub text : FileText (table es) file
  pub sendable : All Sendable es

-- The code's own: the row of an entry in two halves, op, client and request, each with its comma; kind, member and cents with commas between them, and CRLF.
unfoldable pub front_of : (op : ℕ) → Entry → List ℕ
front_of op e = decimal op ++ comma ∷ decimal e.client ++ comma ∷ decimal e.request ++ comma ∷ []

unfoldable pub back_of : Entry → List ℕ
back_of e = kind_word e.operation ++ comma ∷ decimal e.member ++ comma ∷ decimal e.cents ++ crlf
