-- What table::find tells the core of a client.
--     found-tells         on rows as calls leave them it is what the model's table has of it
--     latest-outcome      on any bytes, a reply that is told has an outcome of 1 to 6
-- Assumes nothing.
use Rattle.std.specs.Prelude.{Option, Some, None}
use Prim.Native.Nat.{ℕ, ◌≤◌}
use mathlib.Core.Path.{◌≡◌, sym, subst}
use mathlib.Core.List.{List}
use Rattle.frames.specs.declared.Message.{Message}
use Rattle.fees.specs.declared.Outcome.{Outcome}
use Rattle.client_table.specs.declared.Latest.TheVariants.{Nothing, Answered}
use Rattle.client_table.specs.Found.{Found, found_in, latest_of}
use Rattle.client_table.proofs.FindLaws.{latest-found}
use Rattle.client_table.proofs.LatestLaws.{latest-same}
use Rattle.client_table_bytes.specs.Layout.{byte_row, rows_of}
use Rattle.client_table_bytes.specs.declared.MarkedRow.{MarkedRow}
use Rattle.client_table_bytes.proofs.LayoutLaws.{byte-lawful, answered-outcome}
use Rattle.layout.specs.Layout.{table_in, Ordered}
use Rattle.layout.specs.Shown.{Tells}
use Rattle.layout.proofs.RowLift.{find-there, find-row}
use Rattle.replica.specs.Calls.{found_for, latest_found, latest_for}

pub found-tells : (xs : List MarkedRow) (c : ℕ) → Ordered byte_row xs
    → Tells (table_in byte_row xs) c (latest_of byte_row (found_in byte_row xs c))
found-tells xs c o =
    subst (Tells (table_in byte_row xs) c) (sym (latest-found byte_row xs c))
    (latest-same _ _ _ _ _ _ (sym (find-there byte_row xs o byte-lawful c))
    (λ t. let r = find-row byte_row xs o byte-lawful c t in (sym r.0, sym r.1)))

found-outcome : (f : Option (Found MarkedRow)) {r : ℕ} {o : Outcome} → latest_found f ≡ Answered r o → (1 ≤ o.code) × (o.code ≤ 6)
unfolding latest_found
found-outcome None p = absurd (cc p)
found-outcome (Some f) p = answered-outcome f p

pub latest-outcome : (m : Message) (n : ℕ) (table : List ℕ) {r : ℕ} {o : Outcome} → latest_for m n table ≡ Answered r o → (1 ≤ o.code) × (o.code ≤ 6)
unfolding latest_for
latest-outcome m n table p = found-outcome (found_for m n table) p
