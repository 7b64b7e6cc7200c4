-- `csv_table::fields::header_in` meets its contract.
-- Assumes nothing.
use mathlib.Core.Path.{ap, ◌∙◌}
use mathlib.Core.List.{List}
use mathlib.Core.Bool.{Bool}
use Prim.Native.Nat.{ℕ}
use Rattle.std.specs.Bool.{then_some}
use Rattle.csv_table.specs.Fields.{same, header_in}
use Rattle.csv_table.proofs.fields.header_in.Goals as goal

pub returns : goal.returns
unfolding header_in
returns c =
    c.then_some.ensures ∙ ap (λ (b : Bool). then_some b 0) (c.eq.ensures ∙ ap (λ (w : List ℕ). same c.args.t.now w) c.header_word.ensures)
