-- `frames::table::looks_at` meets its contract. Assumes nothing.
use Rattle.frames.proofs.TableLaws.{table-right}
use Rattle.frames.proofs.table.looks_at.Goals as goal

pub returns : goal.returns
returns c = rw (c.from-i.ensures, c.from.ensures) (table-right c.args.s c.args.kind)
