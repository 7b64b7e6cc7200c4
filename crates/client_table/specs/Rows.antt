-- The client table as a list of rows: find, put, follow, rebuild. Rows stand in rising order of client id, unused rows last. The definitions are
-- for any rows, those that no call produced too, and for any form of a row: bytes, or a struct. Assumes nothing.
use Rattle.std.specs.Prelude.{Bool, List, [], ◌∷◌, ◌++◌, ℕ, zero, suc, ◌+◌, ◌-◌, leb, eqb, length, take, drop, replicate}
use Rattle.numbers.specs.Words.{when◌then◌else◌, ◌and◌}
use Rattle.entries.specs.declared.Entry.{Entry}
use Rattle.fees.specs.declared.Outcome.{Outcome}
use Rattle.client_table.specs.declared.Span.{Span}
use Rattle.client_table.specs.declared.Change.{Change}
use Rattle.client_table.specs.declared.Goal.{Goal}
use Rattle.client_table.specs.declared.Goal.TheVariants.{Client, End}
use Rattle.client_table.specs.Shape.{Shape, row_at}
use Rattle.client_table.specs.Search.{span, mid_of, halved, is_before}

module _ {R : Type 0} (h : Shape R) where
  -- the search within a span; as many halvings as it has fuel
  unfoldable pub seek_from : (fuel : ℕ) → Span → Goal → List R → ℕ
  seek_from zero s g xs = s.lo
  seek_from (suc f) s g xs =
      when leb s.hi s.lo then s.lo else
      seek_from f (halved s (is_before (h.used (row_at h xs (mid_of s))) (h.client (row_at h xs (mid_of s))) g)) g xs

  -- from place a on
  unfoldable pub seek : ℕ → Goal → List R → ℕ
  seek a g xs = seek_from (length xs) (span a (length xs)) g xs

  -- where a client's row is, or would go
  unfoldable pub spot_of : List R → ℕ → ℕ
  spot_of xs c = seek 0 (Client c) xs

  -- whether its row stands there
  unfoldable pub is_there : List R → ℕ → Bool
  is_there xs c = h.used (row_at h xs (spot_of xs c)) and eqb (h.client (row_at h xs (spot_of xs c))) c

  -- r at place `at`, the rows from there up to place `to` one place further; at = to: in place of the row there
  unfoldable pub stored : (at to : ℕ) → R → List R → List R
  stored at to r xs = take at xs ++ r ∷ take (to - at) (drop at xs) ++ drop (to + 1) xs

  -- the first unused place after a client's spot; where there is none it is past the end
  unfoldable pub end_of : List R → ℕ → ℕ
  end_of xs c = seek (spot_of xs c) End xs

  -- `client_table.insert`: the row of a new client; a full table takes none
  unfoldable pub inserted : List R → R → List R
  inserted xs r =
      when leb (length xs) (end_of xs (h.client r)) then xs else
      stored (spot_of xs (h.client r)) (end_of xs (h.client r)) r xs

  -- `client_table.insert`: in place of the client's row, or as a new one
  unfoldable pub put_row : List R → R → List R
  put_row xs r =
      when is_there xs (h.client r) then stored (spot_of xs (h.client r)) (spot_of xs (h.client r)) r xs else
      inserted xs r

  -- append_to_log, for each entry: its client's latest request, not yet executed
  unfoldable pub appended : List R → List Entry → List R
  appended xs [] = xs
  appended xs (e ∷ es) = appended (put_row xs (h.fresh e)) es

  -- the entry is its client's latest request
  unfoldable pub is_latest : List R → Entry → Bool
  is_latest xs e = is_there xs e.client and eqb (h.request (row_at h xs (spot_of xs e.client))) e.request

  -- commit_op: the reply is remembered only where the row's number is the entry's
  unfoldable pub replied : List R → Entry → Outcome → List R
  replied xs e o =
      when is_latest xs e then stored (spot_of xs e.client) (spot_of xs e.client) (h.answered e o) xs else
      xs

  -- commit_up_to: each entry with what it gave
  unfoldable pub rows_committed : List R → List Entry → List Outcome → List R
  rows_committed xs [] os = xs
  rows_committed xs (e ∷ es) [] = xs
  rows_committed xs (e ∷ es) (o ∷ os) = rows_committed (replied xs e o) es os

  -- install_log: the rows of a log's entries in order, each with what the entry gave, as far as there are outcomes; a later entry of a client
  -- overwrites its row
  unfoldable pub rebuilt : (new : List R) → List Entry → List Outcome → List R
  rebuilt new [] os = new
  rebuilt new (e ∷ es) [] = rebuilt (put_row new (h.fresh e)) es []
  rebuilt new (e ∷ es) (o ∷ os) = rebuilt (put_row new (h.answered e o)) es os

  -- the rows brought up to what a call did: a log that it installed, or entries that it appended and then those that it committed. `log` is all of
  -- the log after it, `os` what each committed entry gave, from the first on
  unfoldable pub followed : Change → List R → (log : List Entry) (os : List Outcome) → List R
  followed k xs log os =
      when k.installed then rebuilt (replicate (length xs) h.blank) log os else
      rows_committed (appended xs (drop k.op.0 log)) (drop k.commit.0 log) (drop k.commit.0 os)
