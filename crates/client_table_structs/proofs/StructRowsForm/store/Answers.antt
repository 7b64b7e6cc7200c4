-- `client_table_structs::StructRows` meets the contract of `store`. Assumes nothing.
use mathlib.Core.Path.{refl, ap, ◌∙◌}
use mathlib.Core.List.{List}
use native.Mathlib.Omega.{arith}
use lib.ListN.{length-set, set}
use Rattle.client_table.proofs.StoreLaws.{stored-moved}
use Rattle.client_table_structs.specs.Shape.{struct_row, unused_row}
use Rattle.client_table_structs.specs.declared.Row.{Row}
use Rattle.client_table_structs.proofs.StructRowsForm.store.Goals as goal

pub returns : goal.returns
returns c =
    let a = c.args in
    let pre = c.requires in
    record {
      rows =
          ap (λ (xs : List Row). set xs a.at a.row) c.copy_within.ensures.after
          ∙ stored-moved struct_row a.at a.to a.row unused_row a.table.now pre.1.0 (omega arith);
      rest = refl;
      len = simp length-set c.copy_within.ensures.len;
    }
