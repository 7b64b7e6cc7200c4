-- The client's record as a run of 54 bytes, for callers that aren't Rattle: n 1, id 8, view 4, next request number 8, pending 1, and the pending request's entry, 32.
-- Pending is 0, and the entry isn't looked at, or 1. Any other number there is a byte without meaning, and refusal 1. Assumes nothing.
use Rattle.std.specs.Prelude.{◌≡◌, Bool, true, false, not, List, ◌++◌, ℕ, eqb, leb, length, drop, replicate, Option, None, Some}
use Rattle.numbers.specs.Words.{when◌then◌else◌}
use Rattle.numbers.specs.Numbers.{big, num, view_at}
use Rattle.entries.specs.Entries.{entry_of, encode_entry}
use Rattle.entries.specs.declared.Entry.{Entry}
use Rattle.client.specs.declared.Client.{Client}

unfoldable pub pending_of : List ℕ → Option Entry
pending_of s = when eqb (num 1 0 s) 0 then None else Some (entry_of (drop 1 s))

unfoldable pub encode_pending : Option Entry → List ℕ
encode_pending None = replicate 33 0
encode_pending (Some e) = big 1 1 ++ encode_entry e

-- the record that a run holds
unfoldable pub record_of : List ℕ → Client
record_of s = record { n = num 1 0 s; id = num 8 1 s; view = view_at 9 s; next = num 8 13 s; pending = pending_of (drop 21 s) }

unfoldable pub encode_record : Client → List ℕ
encode_record c = big 1 c.n ++ big 8 c.id ++ big 4 c.view.0 ++ big 8 c.next ++ encode_pending c.pending

-- a run holds a record
unfoldable pub record_ok : List ℕ → Bool
record_ok s = when not (eqb (length s) 54) then false else leb (num 1 21 s) 1

-- A writer's promise: the run is the record's bytes, it passes, and the record is read back from it.
pub record HoldsClient (c : Client) (run : List ℕ) : Type 0 where
  pub bytes : run ≡ encode_record c
  pub ok : record_ok run ≡ true
  pub back : record_of run ≡ c
