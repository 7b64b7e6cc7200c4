-- Export and import as calls, each by itself and together.
--     accepts, accepted, bad-row   import in both directions, and the row that it names
--     imports-back, exports-back   the two round trips
--     export-untouched, import-untouched       a refused call
-- Assumes nothing.
use mathlib.Core.Path.{◌≡◌, refl, sym, ap, ◌∙◌, subst}
use mathlib.Core.Bool.{Bool, true, false, not, false≢true}
use mathlib.Core.List.{List}
use Prim.Native.Nat.{ℕ, ◌*◌, ◌≤◌}
use native.Mathlib.Omega.{arith}
use lib.ListN.{length, take, drop}
use lib.Seq.{take_at}
use borrow.Author.Tests.{le-ltb, not-false}
use Rattle.std.specs.Prelude.{Result, Ok, Err}
use Rattle.std.specs.Result.{is_ok, result_unwrap_or}
use Rattle.numbers.specs.Words.{All}
use Rattle.numbers.specs.Numbers.{over, Bytes}
use Rattle.numbers.specs.Cells.{packed}
use Rattle.numbers.proofs.WordLaws.{split, if-false}
use Rattle.numbers.proofs.CellLaws.{cells-length}
use Rattle.entries.specs.Entries.{entry_of, encode_entry, entries, run_count, run_ok, Sendable}
use Rattle.entries.specs.declared.Entry.{Entry}
use Rattle.entries.proofs.SendableLaws.{run_long, run-sendable, run_is, entries-packed, packed-long, packed-ok, packed-entries}
use Rattle.csv_table.specs.Table.{exported, IsTable}
use Rattle.csv_table.specs.Reading.{scanned, table_entries}
use Rattle.csv_table.specs.Calls.{CallLeft, refused, exporting, export_call, importing, import_scanned, import_call}
use Rattle.csv_table.specs.Laws.{how_many, text_of, run_of, entries_of, AcceptsOnly, AcceptsAll, FirstBad, ImportsBack, ExportsBack, UntouchedByRefusal}
use Rattle.csv_table.specs.declared.refusal.FieldFault.{FieldFault}
use Rattle.csv_table.specs.declared.refusal.CsvRefusal.{CsvRefusal}
use Rattle.csv_table.specs.declared.refusal.CsvRefusal.TheVariants.{BadEntry, NoRoom, BadRow}
use Rattle.csv_table.proofs.Views.{Good, bad-not, bad_row_of}
use Rattle.csv_table.proofs.TableLaws.{Looked, good-table, table_is}
use Rattle.csv_table.proofs.BadRowLaws.{first-bad}
use Rattle.csv_table.proofs.PlainLaws.{exported-is}

-- ---- import

-- a file that was looked over
import-is : (file : List ℕ) (es : List Entry) → Looked file es → (area : List ℕ) → import_call file area ≡ importing es area
unfolding import_call import_scanned
import-is file es d area =
    ap (λ (t : Result ℕ CsvRefusal). import_scanned t file area) d.scan
    ∙ ap (λ (n : ℕ). importing (table_entries n file) area) (omega arith)
    ∙ ap (λ (xs : List Entry). importing xs area) d.read

pub accepts-all : (es : List Entry) (file : List ℕ) → IsTable es file → AcceptsAll es file
accepts-all es file t area = import-is file es (good-table file es t) area

-- a file with a bad row is refused for it
import-refused : (file area : List ℕ) (r : CsvRefusal) → scanned file ≡ Err r → import_call file area ≡ refused r area
unfolding import_call import_scanned
import-refused file area r e = ap (λ (t : Result ℕ CsvRefusal). import_scanned t file area) e

-- what a done import found
scanned-good : (file area : List ℕ) → Good (import_call file area).answer → Good (scanned file)
scanned-good file area h = go (scanned file) refl
  where
    go : (t : Result ℕ CsvRefusal) → scanned file ≡ t → Good (scanned file)
    go (Ok n) e = ap is_ok e
    go (Err r) e = bad-not (ap (λ (d : CallLeft). is_ok d.answer) (sym (import-refused file area r e)) ∙ h)

-- and what it leaves
pub record ImportDone (es : List Entry) (area : List ℕ) (d : CallLeft) : Type 0 where
  pub count : how_many d ≡ length es
  pub is : d.area ≡ over (packed encode_entry es) area

importing-done : (es : List Entry) (area : List ℕ) → Good (importing es area).answer → ImportDone es area (importing es area)
unfolding importing
importing-done es area =
    split (λ (d : CallLeft). Good d.answer → ImportDone es area d) _ _ _ (λ _. bad-not) (λ _ _. record { count = refl; is = refl })

-- the entries of a done import, the table that the file is, and what is left
record Imports (file area : List ℕ) : Type 0 where
  es : List Entry
  is : IsTable es file
  done : ImportDone es area (import_call file area)
  entries-are : entries_of (import_call file area) ≡ es

done-import : (file area : List ℕ) → Good (import_call file area).answer → Imports file area
unfolding over
done-import file area z =
    let t = table_is file (scanned-good file area z) in
    let q = import-is file t.es t.looked area in
    let d = subst (ImportDone t.es area) (sym q) (importing-done t.es area (ap (λ (x : CallLeft). is_ok x.answer) (sym q) ∙ z)) in
    record {
      es = t.es;
      is = t.is;
      done = d;
      entries-are =
          (λ i. entries (d.count i) (d.is i)) ∙ entries-packed t.es (drop (length (packed encode_entry t.es)) area) t.is.sendable;
    }

pub accepts-only : (file area : List ℕ) → AcceptsOnly file (import_call file area)
accepts-only file area n e =
    let d = done-import file area (ap is_ok e) in
    let c : how_many (import_call file area) ≡ n = ap (λ (r : Result ℕ CsvRefusal). result_unwrap_or r 0) e in
    subst (λ (xs : List Entry). IsTable xs file) (sym d.entries-are ∙ ap (λ (k : ℕ). entries k (import_call file area).area) c) d.is

-- a refusal for a bad row
is_bad_row : Result ℕ CsvRefusal → Bool
is_bad_row (Ok n) = false
is_bad_row (Err BadEntry) = false
is_bad_row (Err NoRoom) = false
is_bad_row (Err (BadRow row column fault offset)) = true

no-bad-row : (es : List Entry) (area : List ℕ) → is_bad_row (importing es area).answer ≡ false
unfolding importing is_bad_row
no-bad-row es area = split (λ (d : CallLeft). is_bad_row d.answer ≡ false) _ _ _ (λ _. refl) (λ _. refl)

pub bad-row : (file area : List ℕ) (row column : ℕ) (fault : FieldFault) (offset : ℕ)
    → (import_call file area).answer ≡ Err (BadRow row column fault offset) → FirstBad row file
unfolding is_bad_row
bad-row file area row column fault offset h = go (scanned file) refl
  where
    go : (t : Result ℕ CsvRefusal) → scanned file ≡ t → FirstBad row file
    go (Ok n) e =
        let t = table_is file (ap is_ok e) in
        let q = import-is file t.es t.looked area in
        absurd (false≢true (sym (no-bad-row t.es area) ∙ ap (λ (d : CallLeft). is_bad_row d.answer) (sym q) ∙ ap is_bad_row h))
    go (Err r) e =
        let w : bad_row_of (scanned file) ≡ row = ap bad_row_of (e ∙ ap (λ (d : CallLeft). d.answer) (sym (import-refused file area r e)) ∙ h) in
        subst (λ (k : ℕ). FirstBad k file) w (first-bad file (λ g. bad-not (ap is_ok (sym e) ∙ g)))

-- ---- export

pub record ExportDone (run area : List ℕ) (d : CallLeft) : Type 0 where
  pub ok : run_ok run ≡ true
  pub bytes : how_many d ≡ length (exported (entries (run_count run) run))
  pub is : d.area ≡ over (exported (entries (run_count run) run)) area

pub done-export : (run area : List ℕ) → Good (export_call run area).answer → ExportDone run area (export_call run area)
unfolding export_call exporting
done-export run area =
    split (λ (d : CallLeft). Good d.answer → ExportDone run area d) _ _ _ (λ _. bad-not) λ r.
    split (λ (d : CallLeft). Good d.answer → ExportDone run area d) _ _ _ (λ _. bad-not)
    (λ _ _. record { ok = not-false _ r; bytes = refl; is = refl })

-- ---- the round trips

pub imports-back : (run area : List ℕ) → Bytes run → Good (export_call run area).answer → ImportsBack run area
unfolding over importing
imports-back run area b z into l =
    let d = done-export run area z in
    let es = entries (run_count run) run in
    let t = exported es in
    let f : text_of (export_call run area) ≡ t = (λ i. take (d.bytes i) (d.is i)) ∙ take_at t (drop (length t) area) (length t) refl in
    let n : length es ≡ run_count run = cells-length 32 entry_of (run_count run) run in
    let m : 32 * length es ≤ length into = omega (arith, run_long run b d.ok) in
    ap (λ (s : List ℕ). import_call s into) f
    ∙ accepts-all es t (exported-is es (run-sendable run b d.ok)) into
    ∙ if-false _ _ _ (le-ltb (length into) (32 * length es) m)
    ∙ (λ i. record { answer = Ok (n i); area = over (run_is run b d.ok i) into })

-- entries that can be sent, exported
export-sendable : (es : List Entry) (into : List ℕ) → All Sendable es → length (exported es) ≤ length into
    → export_call (packed encode_entry es) into ≡ record { answer = Ok (length (exported es)); area = over (exported es) into }
unfolding export_call exporting
export-sendable es into k l =
    if-false _ _ _ (ap not (packed-ok es k))
    ∙ ap (λ (xs : List Entry). exporting (exported xs) into) (packed-entries es k)
    ∙ if-false _ _ _ (le-ltb (length into) (length (exported es)) l)

pub exports-back : (file area : List ℕ) → Good (import_call file area).answer → ExportsBack file area
unfolding over
exports-back file area z into l =
    let d = done-import file area z in
    let w = packed encode_entry d.es in
    let k = d.is.sendable in
    let f : run_of (import_call file area) ≡ w =
    (λ i. take (32 * d.done.count i) (d.done.is i)) ∙ take_at w (drop (length w) area) (32 * length d.es) (packed-long d.es k) in
    let e = d.entries-are in
    ap (λ (s : List ℕ). export_call s into) f
    ∙ export-sendable d.es into k (subst (λ (xs : List Entry). length (exported xs) ≤ length into) e l)
    ∙ (λ i. record { answer = Ok (length (exported (sym e i))); area = over (exported (sym e i)) into })

-- ---- refused calls

-- a call that is done isn't refused
done-not : (d : CallLeft) (n : ℕ) (area : List ℕ) → d.answer ≡ Ok n → UntouchedByRefusal area d
done-not d n area e r h = bad-not (ap is_ok (sym h ∙ e))

pub export-untouched : (run area : List ℕ) → UntouchedByRefusal area (export_call run area)
unfolding export_call exporting
export-untouched run area =
    split (UntouchedByRefusal area) _ _ _ (λ _ _ _. refl) λ _. split (UntouchedByRefusal area) _ _ _ (λ _ _ _. refl) (λ _. done-not _ _ area refl)

scanned-untouched : (file area : List ℕ) (t : Result ℕ CsvRefusal) → UntouchedByRefusal area (import_scanned t file area)
unfolding import_scanned importing
scanned-untouched file area (Err r) = λ q h. refl
scanned-untouched file area (Ok n) = split (UntouchedByRefusal area) _ _ _ (λ _ _ _. refl) (λ _. done-not _ _ area refl)

pub import-untouched : (file area : List ℕ) → UntouchedByRefusal area (import_call file area)
unfolding import_call
import-untouched file area = scanned-untouched file area (scanned file)
