-- The client table as a slice of row structs: what `rows` asks of a row, of one that is a struct. Everything that is done to the table is said there, of
-- any form of row. Assumes nothing.
use Rattle.std.specs.Prelude.{Bool, true, false, List, ℕ}
use Rattle.std.proofs.Math.Option.{Option, none}
use Rattle.entries.specs.declared.Entry.{Entry}
use Rattle.fees.specs.declared.Outcome.{Outcome}
use Rattle.client_table.specs.Found.{found_in, latest_of}
use Rattle.client_table.specs.Shape.{Shape}
use Rattle.client_table.specs.Latest.{kept_of}
use Rattle.client_table.specs.declared.Latest.{Latest}
use Rattle.client_table_structs.specs.declared.Row.{Row}
use Rattle.client_table_structs.specs.declared.KeptReply.{KeptReply}
use Rattle.client_table_structs.specs.declared.KeptReply.TheVariants.{Unused, Waiting, Kept}

-- an unused row
abbrev pub unused_row : Row
unused_row = record { client = 0; request = 0; reply = Unused }

-- the row of an entry
abbrev pub row_holding : Entry → KeptReply → Row
row_holding e k = record { client = e.client; request = e.request; reply = k }

unfoldable pub is_used : KeptReply → Bool
is_used Unused = false
is_used Waiting = true
is_used (Kept c t) = true

-- the reply that is kept: as in bytes, one of an outcome of 1 to 6
unfoldable pub reply_in : KeptReply → Option Outcome
reply_in Unused = none
reply_in Waiting = none
reply_in (Kept c t) = kept_of c t

-- what the table asks of a row, of a struct
abbrev pub struct_row : Shape Row
struct_row =
    record {
      used = λ x. is_used x.reply;
      client = λ x. x.client;
      request = λ x. x.request;
      kept = λ x. reply_in x.reply;
      blank = unused_row;
      fresh = λ e. row_holding e Waiting;
      answered = λ e o. row_holding e (Kept o.code o.total);
    }

-- what the table has of a client
abbrev pub latest_among : List Row → ℕ → Latest
latest_among xs c = latest_of struct_row (found_in struct_row xs c)
