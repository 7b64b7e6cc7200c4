-- `csv_table::reading::copy_entries` meets its contract. The invariant: the area holds the entries of the first j rows behind the header, and p is where the next row
-- begins. Assumes nothing.
use mathlib.Core.Path.{refl, sym, ap, ◌∙◌}
use Prim.Native.Nat.{◌+◌}
use native.Mathlib.Omega.{arith}
use borrow.Author.Rules.{rules}
use Rattle.std.specs.Result.{is_ok}
use Rattle.csv_table.proofs.Views.{row_used}
use Rattle.csv_table.proofs.ReadingLaws.{row-used}
use Rattle.csv_table.proofs.ScanLaws.{scan-fits}
use Rattle.csv_table.proofs.CopyLaws.{header-good, next-good, behind-none, behind_more, copied_none, copied_more}
use Rattle.csv_table.proofs.reading.copy_entries.Goals as goal

pub unwrap-header-requires : goal.unwrap-header-requires
unwrap-header-requires c =
    let a = c.args in
    ap is_ok c.row.ensures ∙ header-good a.file.now a.n c.requires.good

pub loop-j-init : goal.loop-j-init
loop-j-init c =
    let a = c.args in
    let e = sym c.row.ensures ∙ c.unwrap-header.ensures in (
      omega (arith, row-used 0 a.file.now, ap row_used e),
      refl,
      behind-none a.file.now a.n c.requires.good c.unwrap-header.result e,
      copied_none a.file.now a.n c.requires.good a.area.now,
    )

pub unwrap-r-requires : goal.unwrap-r-requires
unwrap-r-requires c =
    let l = c.loop-j in
    let a = c.args in
    let r = c.row-in-loop-j in
    next-good a.file.now a.n c.requires.good l.j l.p r.result r.ensures l.invariant.2 c.loop-j-test.true

pub overflow_add-p : goal.overflow_add-p
overflow_add-p c =
    let l = c.loop-j in
    let r = c.row-in-loop-j in
    omega (arith, scan-fits (l.j + 1) l.p c.args.file.now r.result r.ensures c.unwrap-r.result c.unwrap-r.ensures l.invariant.0)

pub loop-j-preserved : goal.loop-j-preserved
loop-j-preserved c =
    let l = c.loop-j in
    let a = c.args in
    let r = c.row-in-loop-j in
    let u = c.unwrap-r in (
      scan-fits (l.j + 1) l.p a.file.now r.result r.ensures u.result u.ensures l.invariant.0,
      search rules,
      behind_more a.file.now a.n c.requires.good l.j l.p r.result r.ensures l.invariant.2 c.loop-j-test.true u.result u.ensures,
      copied_more a.file.now a.n c.requires.good l.j l.p r.result r.ensures l.invariant.2 c.loop-j-test.true u.result u.ensures a.area.now l.area l.invariant.3
          c.write_entry.ensures,
    )
