-- A struct is a lawful form of row. Assumes nothing.
use Rattle.std.specs.Prelude.{◌≡◌, false, ◌≤◌, refl}
use Rattle.std.proofs.Math.Option.{none, some}
use borrow.Author.Tests.{le-leb}
use Rattle.numbers.specs.Words.{when◌then◌else◌, ◌and◌}
use Rattle.numbers.specs.Numbers.{within}
use Rattle.entries.specs.declared.Entry.{Entry}
use Rattle.fees.specs.declared.Outcome.{Outcome}
use Rattle.client_table.specs.Latest.{kept_of}
use Rattle.client_table.specs.Lawful.{HoldsEntry, Lawful}
use Rattle.client_table_structs.specs.Shape.{struct_row, is_used, reply_in}

unused : struct_row.used struct_row.blank ≡ false
unfolding is_used
unused = refl

fresh-is : (e : Entry) → HoldsEntry struct_row (struct_row.fresh e) e none
unfolding is_used reply_in
fresh-is e = record { used = refl; client = refl; request = refl; kept = refl }

answered-is : (e : Entry) (o : Outcome) → 1 ≤ o.code → o.code ≤ 6 → HoldsEntry struct_row (struct_row.answered e o) e (some o)
unfolding is_used reply_in kept_of within ◌and◌ when◌then◌else◌
answered-is e o l m = record { used = refl; client = refl; request = refl; kept = rw (le-leb 1 o.code l, le-leb o.code 6 m) }

pub struct-lawful : Lawful struct_row
struct-lawful = record { blank = unused; fresh = fresh-is; answered = answered-is }
