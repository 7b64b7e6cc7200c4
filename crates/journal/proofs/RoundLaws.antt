-- Writing and reading together, as calls.
--     write_done, read-done-is      what a call that is done found, and what it leaves
--     reads-back                    what was written is read back
--     writes-back                   what was read is written again
--     balanced-read                 the totals that reading gives are demand 3's, and the takings are their sum
-- Assumes nothing.
use mathlib.Core.Path.{◌≡◌, refl, sym, ap, ◌∙◌, subst}
use mathlib.Core.Bool.{true, not}
use mathlib.Core.List.{List, [], ◌∷◌, append-nil}
use Rattle.std.specs.Prelude.{Option, Some, None, Ok, IsOk}
use Rattle.std.specs.Result.{result_unwrap_or}
use Prim.Native.Nat.{ℕ, ◌*◌, ◌≤◌}
use native.Mathlib.Nat.{zero-add}
use native.Mathlib.Omega.{arith}
use lib.Dec.{leb}
use lib.ListN.{length, take, drop, length-replicate}
use lib.Seq.{take_at}
use borrow.Author.Tests.{ltb-false, leb-true, eq-eqb, not-false}
use Rattle.numbers.specs.Words.{◌and◌, All}
use Rattle.numbers.specs.Numbers.{big, within, over, Bytes}
use Rattle.numbers.specs.Cells.{cells, packed}
use Rattle.numbers.proofs.WordLaws.{split, and_both, if-false}
use Rattle.numbers.proofs.NumberLaws.{both-within}
use Rattle.numbers.proofs.CellLaws.{cells-length, cells-packed, packed-length}
use Rattle.entries.specs.Entries.{entry_of, encode_entry, entries, run_count, run_ok, EntryFits, Sendable}
use Rattle.entries.specs.declared.Entry.{Entry}
use Rattle.entries.proofs.EntryLaws.{entry-codec}
use Rattle.entries.proofs.SendableLaws.{run_long, run-sendable, run_is, entries-packed, packed-count, packed-ok, packed-entries}
use Rattle.model.specs.Book.{results_of, through}
use Rattle.model.proofs.BookLaws.{through-length, answers-length}
use Rattle.layout.specs.Layout.{total_of}
use Rattle.safety.proofs.Money.{member-total, all-totals}
use Rattle.journal.specs.Journal.{no_totals, journal, framed_entry, filed}
use Rattle.journal.specs.declared.refusal.Fault.{Fault}
use Rattle.journal.specs.Examining.{examined_as, examined}
use Rattle.journal.specs.Calls.{LeftWritten, writing, write_call}
use Rattle.journal.specs.Calls.{LeftRead, read_into, read_examined, totals_there, read_call, all_small, takings_of}
use Rattle.journal.specs.Laws.{file_of, entries_read, ReadsBack, WritesBack, Balanced, BalancedRead}
use Rattle.journal.proofs.TotalLaws.{TotalFits, total-codec}
use Rattle.journal.proofs.TakingLaws.{there-is}
use Rattle.journal.proofs.CallLaws.{journal-length, written, read_done}
use Rattle.journal.proofs.SmallLaws.{small-none, small-through}
use Rattle.journal.proofs.GoodLaws.{examined-frames, filed-frames}
use Rattle.journal.proofs.WholeLaws.{Whole, whole}

-- ---- a call that is done

pub record WriteDone (M : ℕ) (run area : List ℕ) (d : LeftWritten) : Type 0 where
  pub members : within 1 4096 M ≡ true
  pub ok : run_ok run ≡ true
  pub few : run_count run ≤ 4096
  pub bytes : d.answer ≡ Ok (length (journal M (entries (run_count run) run)))
  pub is : d.area ≡ over (journal M (entries (run_count run) run)) area

pub write_done : (M : ℕ) (run area : List ℕ) → IsOk (write_call M run area).answer → WriteDone M run area (write_call M run area)
unfolding write_call writing
write_done M run area =
    split (λ (d : LeftWritten). IsOk d.answer → WriteDone M run area d) _ _ _ (λ _ e. cc) λ m.
    split (λ (d : LeftWritten). IsOk d.answer → WriteDone M run area d) _ _ _ (λ _ e. cc) λ r.
    split (λ (d : LeftWritten). IsOk d.answer → WriteDone M run area d) _ _ _ (λ _ e. cc) λ n.
    split (λ (d : LeftWritten). IsOk d.answer → WriteDone M run area d) _ _ _ (λ _ e. cc) λ _ _.
    record { members = not-false _ m; ok = not-false _ r; few = ltb-false _ _ n; bytes = refl; is = refl }

pub record ReadDone (M : ℕ) (file area totals : List ℕ) (d : LeftRead) : Type 0 where
  pub there : totals_there M totals ≡ true
  pub good : (examined M file).fault ≡ None
  pub entries-are : d.answer ≡ Ok (length (filed (examined M file).frames file))
  pub area-is : d.area ≡ over (packed encode_entry (filed (examined M file).frames file)) area
  pub totals-are : d.totals ≡ packed (big 8) (through (no_totals M) (filed (examined M file).frames file))

-- a file that was examined and is good
read-good : (M : ℕ) (file area totals : List ℕ) → totals_there M totals ≡ true → (f : Option Fault) → (examined M file).fault ≡ f
    → IsOk (read_examined M (examined M file) file area totals).answer → ReadDone M file area totals (read_examined M (examined M file) file area totals)
unfolding read_examined read_into
read-good M file area totals t None z =
    rw z (split (λ (d : LeftRead). IsOk d.answer → ReadDone M file area totals d) _ _ _ (λ _ e. cc) λ _ _.
    record { there = t; good = z; entries-are = refl; area-is = refl; totals-are = refl })
read-good M file area totals t (Some f) z = rw z (λ e. cc)

pub read-done-is : (M : ℕ) (file area totals : List ℕ) → IsOk (read_call M file area totals).answer
    → ReadDone M file area totals (read_call M file area totals)
unfolding read_call
read-done-is M file area totals =
    split (λ (d : LeftRead). IsOk d.answer → ReadDone M file area totals d) _ _ _ (λ _ e. cc)
    (λ t. read-good M file area totals (not-false _ t) (examined M file).fault refl)

-- ---- cells written and read

totals-fit : (ts : List ℕ) → all_small ts ≡ true → All TotalFits ts
unfolding all_small
totals-fit [] h = tt
totals-fit (t ∷ ts) h =
    let p = and_both (leb t 1000000000) (all_small ts) h in
    let l : t ≤ 1000000000 = leb-true t 1000000000 p.0 in
    (omega arith, totals-fit ts p.1)

-- ---- what was written is read back

module _ (M : ℕ) (run : List ℕ) (b : Bytes run) (ok : run_ok run ≡ true) (few : run_count run ≤ 4096) where
  abbrev n : ℕ
  n = run_count run

  abbrev es : List Entry
  es = entries n run

  keep : All Sendable es
  keep = run-sendable run b ok

  es-count : length es ≡ n
  es-count = cells-length 32 entry_of n run

  written-good : examined M (journal M es) ≡ examined_as n None
  unfolding examined journal
  written-good =
      examined-frames 4096 0 (no_totals M) es keep (small-none M) (omega (arith, es-count)) (omega (arith, es-count))
      ∙ ap (λ (k : ℕ). examined_as k None) (zero-add (length es) ∙ es-count)

  written-filed : filed n (journal M es) ≡ es
  unfolding journal
  written-filed =
      ap (λ (k : ℕ). filed k (journal M es)) (sym es-count)
      ∙ filed-frames 0 es (results_of (no_totals M) es) (sym (answers-length (no_totals M) es)) keep

there-from : (M : ℕ) (totals : List ℕ) → within 1 4096 M ≡ true → length totals ≡ 8 * M → totals_there M totals ≡ true
unfolding totals_there ◌and◌
there-from M totals m l = rw m (eq-eqb (length totals) (8 * M) l)

pub reads-back : (M : ℕ) (run area : List ℕ) → Bytes run → IsOk (write_call M run area).answer → ReadsBack M run area
unfolding over
reads-back M run area b z into totals l t =
    let d = write_done M run area z in
    let n = run_count run in
    let es = entries n run in
    let w = journal M es in
    let f : file_of (write_call M run area) ≡ w =
    (λ i. take (result_unwrap_or (d.bytes i) 0) (d.is i)) ∙ take_at w (drop (length w) area) (length w) refl in
    let g = written-filed M run b d.ok d.few in
    let p : over run into ≡ over (packed encode_entry (filed n w)) into =
    ap (λ (s : List ℕ). over s into) (sym (run_is run b d.ok) ∙ ap (packed encode_entry) (sym g)) in
    let q : packed (big 8) (through (no_totals M) es) ≡ packed (big 8) (through (no_totals M) (filed n w)) =
    ap (λ (xs : List Entry). packed (big 8) (through (no_totals M) xs)) (sym g) in
    ap (λ (file : List ℕ). read_call M file into totals) f
    ∙ sym (read_done M w into totals (there-from M totals d.members t) (examined_as n None) (sym (written-good M run b d.ok d.few)) refl _ _
    (omega (arith, run_long run b d.ok)) p q)

-- ---- what was read is written again

module _ (M : ℕ) (file : List ℕ) (b : Bytes file) (good : (examined M file).fault ≡ None) where
  all-good : Whole 4096 0 (no_totals M) file
  unfolding examined
  all-good = whole 4096 0 (no_totals M) file b good

  -- the entries read
  abbrev rs : List Entry
  rs = filed all-good.m file

  read-are : filed (examined M file).frames file ≡ rs
  unfolding examined
  read-are = ap (λ (k : ℕ). filed k file) (all-good.count ∙ zero-add all-good.m)

  rs-count : length rs ≡ all-good.m
  rs-count = cells-length 50 framed_entry all-good.m file

  is-journal : file ≡ journal M rs
  unfolding journal
  is-journal = all-good.is

pub writes-back : (M : ℕ) (file area totals : List ℕ) → Bytes file → IsOk (read_call M file area totals).answer → WritesBack M file area totals
unfolding over totals_there
writes-back M file area totals b z into l =
    let d = read-done-is M file area totals z in
    let g = d.good in
    let rs = filed (all-good M file b g).m file in
    let w = packed encode_entry rs in
    let r = read-are M file b g in
    let k : 32 * length rs ≡ length w = sym (packed-length 32 entry_of encode_entry EntryFits entry-codec rs) in
    let f : entries_read (read_call M file area totals) ≡ w =
    (λ i. take (32 * result_unwrap_or (d.entries-are i) 0) (d.area-is i))
    ∙ (λ i. take (32 * length (r i)) (over (packed encode_entry (r i)) area))
    ∙ take_at w (drop (length w) area) (32 * length rs) (sym k) in
    let ks = (all-good M file b g).keeps in
    let c = packed-count rs ks ∙ rs-count M file b g in
    let m = (and_both _ _ d.there).0 in
    let p : over file into ≡ over (journal M (entries (run_count w) w)) into =
    ap (λ (s : List ℕ). over s into) (is-journal M file b g ∙ ap (journal M) (sym (packed-entries rs ks))) in
    let n : 50 * run_count w ≡ length file =
    omega (arith, c, rs-count M file b g, journal-length M rs, ap length (is-journal M file b g)) in
    ap (λ (s : List ℕ). write_call M s into) f
    ∙ sym (written M w into m (packed-ok rs ks) (omega (arith, c, (all-good M file b g).few)) _ (omega (arith, n)) p)
    ∙ (λ i. record { answer = Ok (n i); area = over file into })

-- ---- totals

pub balanced-read : (M : ℕ) (file area totals : List ℕ) → Bytes file → IsOk (read_call M file area totals).answer
    → BalancedRead M (read_call M file area totals)
unfolding over takings_of
balanced-read M file area totals b z =
    let d = read-done-is M file area totals z in
    let g = d.good in
    let rs = filed (all-good M file b g).m file in
    let r = read-are M file b g in
    let h = there-is M totals d.there in
    let ts = through (no_totals M) rs in
    let small = small-through (no_totals M) rs (small-none M) in
    let count : length ts ≡ M = through-length (no_totals M) rs ∙ length-replicate M 0 in
    let es : entries (result_unwrap_or (read_call M file area totals).answer 0) (read_call M file area totals).area ≡ rs =
    (λ i. entries (result_unwrap_or (d.entries-are i) 0) (d.area-is i)) ∙ (λ i. entries (length (r i)) (over (packed encode_entry (r i)) area))
    ∙ entries-packed rs (drop (length (packed encode_entry rs)) area) (all-good M file b g).keeps in
    let s : (read_call M file area totals).totals ≡ packed (big 8) ts =
    d.totals-are ∙ ap (λ (xs : List Entry). packed (big 8) (through (no_totals M) xs)) r in
    let us : cells 8 total_of M (read_call M file area totals).totals ≡ ts =
    (λ i. cells 8 total_of (sym count i) ((s ∙ sym (append-nil (packed (big 8) ts))) i))
    ∙ cells-packed 8 total_of (big 8) TotalFits total-codec ts [] (totals-fit ts small) in
    let long : length (read_call M file area totals).totals ≡ 8 * M =
    ap length s ∙ packed-length 8 total_of (big 8) TotalFits total-codec ts ∙ ap (λ (k : ℕ). 8 * k) count in
    let there = there-from M (read_call M file area totals).totals (both-within 1 4096 M h.some h.few) long in
    record {
      balanced =
          subst (λ (xs : List Entry). Balanced M xs (cells 8 total_of M (read_call M file area totals).totals)) (sym es)
          (subst (Balanced M rs) (sym us) (record { member-totals = member-total M rs; sum-of-totals = all-totals M rs }));
      takings = if-false _ _ _ (ap not there) ∙ if-false _ _ _ (ap not (ap all_small us ∙ small));
    }
