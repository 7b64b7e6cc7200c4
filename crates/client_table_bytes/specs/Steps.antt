-- What a change of the byte table leaves, to the last byte. Assumes nothing.
use Rattle.std.specs.Prelude.{◌≡◌, List, ◌++◌, ℕ, ◌*◌, ◌^◌, ◌<◌, drop}
use Rattle.numbers.specs.Cells.{packed}
use Rattle.client_table_bytes.specs.declared.MarkedRow.{MarkedRow}
use Rattle.client_table_bytes.specs.Layout.{encode_row, rows_of}

-- what the types of a row's fields say
pub record RowFits (r : MarkedRow) : Type 0 where
  pub client : r.client < 2 ^ 64
  pub request : r.request < 2 ^ 64
  pub mark : r.mark < 2 ^ 8
  pub total : r.total < 2 ^ 64

-- The run's first n rows are these, byte for byte and as they are read again, and what stood behind them is as it was. It is what `Leaves` says of
-- bytes (`left-leaves`, `leaves-left` of proofs/LayoutLaws).
pub record RowsLeft (n : ℕ) (before after : List ℕ) (now : List MarkedRow) : Type 0 where
  pub bytes : after ≡ packed encode_row now ++ drop (25 * n) before
  pub rows : rows_of n after ≡ now
