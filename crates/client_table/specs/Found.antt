-- What a search finds of a client in a table, and what the core is told of it. Assumes nothing.
use Rattle.std.specs.Prelude.{◌≡◌, true, false, List, ℕ, ◌+◌, ◌≤◌, ◌<◌, Result, Ok, Err}
use Rattle.numbers.specs.Words.{when◌then◌else◌}
use Rattle.entries.specs.Places.{entry_in}
use Rattle.client_table.specs.Latest.{latest_by}
use Rattle.client_table.specs.Rows.{spot_of, is_there}
use Rattle.client_table.specs.Shape.{Shape, row_at}
use Rattle.client_table.specs.declared.Change.{Change}
use Rattle.client_table.specs.declared.Latest.{Latest}
use Rattle.client_table.specs.declared.Latest.TheVariants.{Nothing}

-- the place of the client's row, and the row; or the place where its row would go, and the row that stands there, past the end an unused one
abbrev pub Found : Type 0 → Type 0
Found R = Result (ℕ × R) (ℕ × R)

module _ {R : Type 0} (h : Shape R) where
  unfoldable pub found_in : List R → ℕ → Found R
  found_in xs c =
      when is_there h xs c then Ok (spot_of h xs c, row_at h xs (spot_of h xs c)) else
      Err (spot_of h xs c, row_at h xs (spot_of h xs c))

  -- what was found, as the core is told it
  abbrev pub latest_of : Found R → Latest
  latest_of (Ok p) = latest_by true (h.request p.1) (h.kept p.1)
  latest_of (Err p) = Nothing

  -- a call that appended no more than one entry, and f is what was found of its client among the rows before it
  pub record AppendsFor (k : Change) (f : Found R) (xs : List R) (log : List ℕ) : Type 0 where
    pub kept : k.installed ≡ false
    pub one : k.to.0 ≤ k.op.0 + 1
    pub found : k.op.0 < k.to.0 → f ≡ found_in xs (entry_in log k.op.0).client
