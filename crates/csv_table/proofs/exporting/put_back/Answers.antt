-- `csv::exporting::put_back` meets its contract: each field stands straight behind the one before, and CRLF behind the last. Assumes nothing.
use mathlib.Core.Path.{refl}
use native.Mathlib.Omega.{arith}
use Rattle.csv_table.specs.Rows.{crlf}
use Rattle.csv_table.proofs.ExportRowLaws.{back-sizes, back-parts, wrote-lend}
use Rattle.csv_table.proofs.exporting.put_back.Goals as goal

pub put_kind-a-requires : goal.put_kind-a-requires
put_kind-a-requires c = omega (arith, back-sizes c.args.e)

pub slice_bounds-put_number-count : goal.slice_bounds-put_number-count
slice_bounds-put_number-count c = omega (arith, back-sizes c.args.e)

pub slice_bounds-put_number-start : goal.slice_bounds-put_number-start
slice_bounds-put_number-start c = omega (arith, back-sizes c.args.e)

pub put_number-requires : goal.put_number-requires
put_number-requires c = omega (arith, back-sizes c.args.e)

pub overflow_add-b : goal.overflow_add-b
overflow_add-b c = omega (arith, back-sizes c.args.e)

pub slice_bounds-write-count : goal.slice_bounds-write-count
slice_bounds-write-count c = omega (arith, back-sizes c.args.e)

pub slice_bounds-write-start : goal.slice_bounds-write-start
slice_bounds-write-start c = omega (arith, back-sizes c.args.e)

pub write-requires : goal.write-requires
write-requires c = omega (arith, back-sizes c.args.e)

pub overflow_add-c : goal.overflow_add-c
overflow_add-c c = omega (arith, back-sizes c.args.e)

pub slice_bounds-copy-count : goal.slice_bounds-copy-count
slice_bounds-copy-count c = omega (arith, back-sizes c.args.e)

pub slice_bounds-copy-start : goal.slice_bounds-copy-start
slice_bounds-copy-start c = omega (arith, back-sizes c.args.e)

pub copy-requires : goal.copy-requires
copy-requires c = let a = c.args in (omega (arith, back-sizes a.e), omega arith)

pub overflow_add-result : goal.overflow_add-result
overflow_add-result c = omega (arith, back-sizes c.args.e)

pub returns : goal.returns
returns c =
    let a = c.args in
    let s2 = wrote-lend _ _ _ _ _ c.put_kind-a.ensures c.put_number.ensures in
    let s3 = wrote-lend _ _ _ _ _ s2 c.write.ensures in
    rw (← back-parts a.e) (wrote-lend _ crlf _ _ 2 s3 (record { bytes = c.copy.ensures; count = refl }))
