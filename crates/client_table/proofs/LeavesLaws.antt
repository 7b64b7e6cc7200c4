-- What was left of a table, by one change after another.
--     leaves-same     nothing was changed
--     leaves-then     one change after another
--     leaves_is, leaves-done, leaves-now     the rows under another name, by what is known of them, and as they are read
--     leaves-one      two runs that were left by one promise have the same rows, and the same behind them
-- Assumes nothing.
use mathlib.Core.Path.{◌≡◌, refl, sym, ◌∙◌}
use mathlib.Core.List.{List}
use Prim.Native.Nat.{ℕ}
use Rattle.client_table.specs.Leaves.{Leaves}

module _ {C R : Type 0} (get : ℕ → List C → List R) (behind : ℕ → List C → List C) (n : ℕ) where
  pub leaves-same : (s : List C) → Leaves get behind n s s (get n s)
  leaves-same s = record { rows = refl; rest = refl; len = refl }

  module _ {s t : List C} {xs : List R} (k : Leaves get behind n s t xs) where
    pub leaves-then : {u : List C} {ys : List R} → Leaves get behind n t u ys → Leaves get behind n s u ys
    leaves-then m = record { rows = m.rows; rest = m.rest ∙ k.rest; len = m.len ∙ k.len }

    pub leaves_is : {ys : List R} → xs ≡ ys → Leaves get behind n s t ys
    leaves_is e = record { rows = k.rows ∙ e; rest = k.rest; len = k.len }

    -- the rows as they are read, by what is known of them
    pub leaves-done : {ys : List R} → get n t ≡ ys → Leaves get behind n s t ys
    leaves-done e = record { rows = e; rest = k.rest; len = k.len }

    pub leaves-now : Leaves get behind n s t (get n t)
    leaves-now = leaves_is (sym k.rows)

    pub leaves-one : {u : List C} → Leaves get behind n s u xs → (get n t ≡ get n u) × (behind n t ≡ behind n u)
    leaves-one m = (k.rows ∙ sym m.rows, k.rest ∙ sym m.rest)
