-- Equality of any two permitted answers of the table's public functions: two answers, or two contents of the rows that were lent, that both meet a function's
-- contract are equal. Of a change of the table that is the `rows` of `Leaves`, which is an equation of the slice (`left-one`). Assumes nothing.
use mathlib.Core.Path.{◌≡◌, sym, ◌∙◌}
use mathlib.Core.Bool.{Bool, true}
use mathlib.Core.List.{List, []}
use Prim.Native.Nat.{ℕ, ◌-◌}
use lib.ListN.{length, drop, replicate}
use Rattle.entries.specs.Entries.{entries}
use Rattle.entries.specs.Places.{entry_place, result_place}
use Rattle.entries.specs.declared.Entry.{Entry}
use Rattle.fees.specs.Results.{outcomes}
use Rattle.fees.specs.declared.Outcome.{Outcome}
use Rattle.client_table.specs.Rows.{stored, appended, rows_committed, rebuilt, followed}
use Rattle.client_table.specs.Found.{Found, found_in, latest_of}
use Rattle.client_table.specs.Latest.{latest_by}
use Rattle.client_table.specs.Leaves.{Leaves}
use Rattle.client_table.specs.Shape.{row_at}
use Rattle.client_table.specs.declared.Change.{Change}
use Rattle.client_table.specs.declared.Latest.{Latest}
use Rattle.client_table.proofs.LeavesLaws.{leaves-one}
use Rattle.client_table_structs.specs.Shape.{unused_row, row_holding, struct_row, is_used, reply_in, latest_among}
use Rattle.client_table_structs.specs.declared.Row.{Row}
use Rattle.client_table_structs.specs.declared.KeptReply.{KeptReply}

-- ---- the table

-- of every change: the slice is what `Leaves` names
abbrev slice : ℕ → List Row → List Row
slice n s = s

abbrev nothing : ℕ → List Row → List Row
nothing n s = []

pub left-one : {n : ℕ} {table x y now : List Row} → Leaves slice nothing n table x now → Leaves slice nothing n table y now → x ≡ y
left-one {n} k m = (leaves-one slice nothing n k m).0

-- row_at
pub row-at-one : (table : List Row) (at : ℕ) (r t : Row) → r ≡ row_at struct_row table at → t ≡ row_at struct_row table at → r ≡ t
row-at-one table at r t p q = p ∙ sym q

-- find
pub find-one : (table : List Row) (client : ℕ) (r t : Found Row) → r ≡ found_in struct_row table client → t ≡ found_in struct_row table client → r ≡ t
find-one table client r t p q = p ∙ sym q

-- store
pub store-one : (table : List Row) (at to : ℕ) (row : Row) (x y : List Row) → x ≡ stored struct_row at to row table
    → y ≡ stored struct_row at to row table → x ≡ y
store-one table at to row x y p q = p ∙ sym q

-- clear
pub clear-one : (table x y : List Row) → x ≡ replicate (length table) unused_row → y ≡ replicate (length table) unused_row → x ≡ y
clear-one table x y p q = p ∙ sym q

-- what the table has of a client
pub latest-one : (table : List Row) (client : ℕ) (r t : Latest) → r ≡ latest_among table client → t ≡ latest_among table client → r ≡ t
latest-one table client r t p q = p ∙ sym q

module _ (table : List Row) (log results : List ℕ) (from to : ℕ) where
  abbrev Appended : List Row → Type 0
  Appended x = x ≡ appended struct_row table (entries (to - from) (drop (entry_place from) log))

  -- follow_append
  pub follow-append-one : (x y : List Row) → Appended x → Appended y → x ≡ y
  follow-append-one x y p q = p ∙ sym q

  abbrev Committed : List Row → Type 0
  Committed x =
      x ≡ rows_committed struct_row table (entries (to - from) (drop (entry_place from) log)) (outcomes (to - from) (drop (result_place from) results))

  -- follow_commit
  pub follow-commit-one : (x y : List Row) → Committed x → Committed y → x ≡ y
  follow-commit-one x y p q = p ∙ sym q

-- rebuild
module _ (n : ℕ) (log results : List ℕ) (op done : ℕ) where
  abbrev Rebuilt : List Row → Type 0
  Rebuilt x = x ≡ rebuilt struct_row (replicate n unused_row) (entries op log) (outcomes done results)

  pub rebuild-one : (x y : List Row) → Rebuilt x → Rebuilt y → x ≡ y
  rebuild-one x y p q = p ∙ sym q

module _ (table : List Row) (log results : List ℕ) (change : Change) where
  abbrev Followed : List Row → Type 0
  Followed x = x ≡ followed struct_row change table (entries change.to.0 log) (outcomes change.done.0 results)

  -- follow
  pub follow_one : (x y : List Row) → Followed x → Followed y → x ≡ y
  follow_one x y p q = p ∙ sym q

  -- follow_found, whatever was found
  pub follow-found-one : (f : Found Row) (x y : List Row) → Followed x → Followed y → x ≡ y
  follow-found-one f = follow_one

-- ---- what a row says

-- client
pub client-one : (x : Row) (r t : ℕ) → r ≡ struct_row.client x → t ≡ struct_row.client x → r ≡ t
client-one x r t p q = p ∙ sym q

-- request
pub request-one : (x : Row) (r t : ℕ) → r ≡ struct_row.request x → t ≡ struct_row.request x → r ≡ t
request-one x r t p q = p ∙ sym q

-- no_row
pub no-row-one : (r t : Row) → r ≡ unused_row → t ≡ unused_row → r ≡ t
no-row-one r t p q = p ∙ sym q

-- fresh
pub fresh-one : (e : Entry) (r t : Row) → r ≡ struct_row.fresh e → t ≡ struct_row.fresh e → r ≡ t
fresh-one e r t p q = p ∙ sym q

-- answered
pub answered-one : (e : Entry) (o : Outcome) (r t : Row) → r ≡ struct_row.answered e o → t ≡ struct_row.answered e o → r ≡ t
answered-one e o r t p q = p ∙ sym q

-- row_holding
pub row-holding-one : (e : Entry) (k : KeptReply) (r t : Row) → r ≡ row_holding e k → t ≡ row_holding e k → r ≡ t
row-holding-one e k r t p q = p ∙ sym q

-- is_used
pub is-used-one : (k : KeptReply) (r t : Bool) → r ≡ is_used k → t ≡ is_used k → r ≡ t
is-used-one k r t p q = p ∙ sym q

-- held_in
pub held-in-one : (request : ℕ) (k : KeptReply) (r t : Latest) → r ≡ latest_by true request (reply_in k) → t ≡ latest_by true request (reply_in k) → r ≡ t
held-in-one request k r t p q = p ∙ sym q

-- told
pub told-one : (f : Found Row) (r t : Latest) → r ≡ latest_of struct_row f → t ≡ latest_of struct_row f → r ≡ t
told-one f r t p q = p ∙ sym q
