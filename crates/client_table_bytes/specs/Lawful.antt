-- A row in bytes is a lawful form of row. Assumes nothing.
use Rattle.std.specs.Prelude.{◌≡◌, ◌≤◌, refl}
use Rattle.std.proofs.Common.{arith}
use Rattle.std.proofs.Math.Option.{none, some}
use borrow.Author.Tests.{ne_eqb, le-leb}
use Rattle.numbers.specs.Words.{when◌then◌else◌, ◌and◌}
use Rattle.numbers.specs.Numbers.{within}
use Rattle.entries.specs.declared.Entry.{Entry}
use Rattle.fees.specs.declared.Outcome.{Outcome}
use Rattle.client_table.specs.Latest.{kept_of}
use Rattle.client_table.specs.Lawful.{HoldsEntry, Lawful}
use Rattle.client_table_bytes.specs.Layout.{byte_row}

answered-is : (e : Entry) (o : Outcome) → 1 ≤ o.code → o.code ≤ 6 → HoldsEntry byte_row (byte_row.answered e o) e (some o)
unfolding kept_of within ◌and◌ when◌then◌else◌
answered-is e o l m =
    let u : o.code ≡ 0 → ⊥ = λ q. omega (arith, q) in
    record {
      used = rw (ne_eqb o.code 0 u);
      client = refl;
      request = refl;
      kept = rw (le-leb 1 o.code l, le-leb o.code 6 m);
    }

fresh-is : (e : Entry) → HoldsEntry byte_row (byte_row.fresh e) e none
unfolding kept_of within ◌and◌ when◌then◌else◌
fresh-is e = record { used = refl; client = refl; request = refl; kept = refl }

pub byte-lawful : Lawful byte_row
byte-lawful = record { blank = refl; fresh = fresh-is; answered = answered-is }
