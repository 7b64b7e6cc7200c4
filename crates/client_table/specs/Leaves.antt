-- What a function that changes a table promises, whichever cells its rows stand in: bytes, or the rows themselves. Assumes nothing.
use Rattle.std.specs.Prelude.{◌≡◌, List, ℕ, length}

-- `get n s` are the first n rows of a run s, and `behind n s` is what stands behind them. The first n rows are `now`; what stood behind them is as it
-- was, and the run is as long as it was.
pub record Leaves {C R : Type 0} (get : ℕ → List C → List R) (behind : ℕ → List C → List C) (n : ℕ) (before after : List C) (now : List R)
    : Type 0 where
  pub rows : get n after ≡ now
  pub rest : behind n after ≡ behind n before
  pub len : length after ≡ length before
