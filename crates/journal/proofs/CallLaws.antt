-- Laws of the calls: what each answers, way by way.
--     journal-length                                            50 bytes an entry
--     write-out, write-bad, write-many, write-no_room, written               writing
--     append-out, ops-are, append-no_room, appended                     appending
--     read-out, read-out2, read-no_room, read_done                        reading
-- Assumes nothing.
use mathlib.Core.Path.{◌≡◌, sym, ap, ◌∙◌}
use mathlib.Core.Bool.{true, false, not}
use mathlib.Core.List.{List}
use Rattle.std.specs.Prelude.{Some, None, Ok}
use Prim.Native.Nat.{ℕ, ◌-◌, ◌*◌, ◌≤◌, ◌<◌}
use native.Mathlib.Omega.{arith}
use lib.ListN.{length, drop}
use borrow.Author.Tests.{lt-ltb, le-ltb, leb-true}
use Rattle.numbers.specs.Numbers.{big, within, over}
use Rattle.numbers.specs.Cells.{packed}
use Rattle.numbers.proofs.WordLaws.{if-true, if-false, and_both}
use Rattle.numbers.proofs.CellLaws.{cells-length}
use Rattle.entries.specs.Entries.{encode_entry, entry_of, entries, run_count, run_ok}
use Rattle.entries.specs.Places.{entry_place, result_place}
use Rattle.entries.specs.declared.Entry.{Entry}
use Rattle.fees.specs.Results.{result_of, outcomes}
use Rattle.model.specs.Book.{results_of, through}
use Rattle.model.proofs.BookLaws.{answers-length}
use Rattle.journal.specs.Journal.{frames_after, no_totals, journal, framed_entry, filed}
use Rattle.journal.specs.Examining.{examined}
use Rattle.journal.specs.Calls.{LeftWritten, not_written, writing, write_call, frames_in, ops_there, append_call}
use Rattle.journal.specs.Calls.{LeftRead, not_read, read_into, read_examined, totals_there, read_call}
use Rattle.journal.specs.declared.Examined.{Examined}
use Rattle.journal.specs.declared.refusal.Fault.{Fault}
use Rattle.journal.specs.declared.refusal.JournalRefusal.TheVariants as refused
use Rattle.journal.proofs.FrameLaws.{frames-length}

-- ---- writing

pub journal-length : (M : ℕ) (es : List Entry) → length (journal M es) ≡ 50 * length es
unfolding journal
journal-length M es = frames-length 0 es (results_of (no_totals M) es) (sym (answers-length (no_totals M) es))

module _ (w area : List ℕ) (n : ℕ) (long : length w ≡ n) where
  writes-no_room : length area < n → not_written refused.NoRoom area ≡ writing w area
  unfolding writing
  writes-no_room h = sym (if-true _ _ _ (lt-ltb (length area) (length w) (omega arith)))

  writes : (after : List ℕ) → n ≤ length area → after ≡ over w area
      → ◌≡◌ {A = LeftWritten} (record { answer = Ok n; area = after }) (writing w area)
  unfolding writing
  writes after h p =
      (λ i. record { answer = Ok (sym long i); area = p i })
      ∙ sym (if-false _ _ _ (le-ltb (length area) (length w) (omega arith)))

module _ (M : ℕ) (run area : List ℕ) where
  pub write-out : within 1 4096 M ≡ false → not_written refused.OutOfRange area ≡ write_call M run area
  unfolding write_call
  write-out e = sym (if-true _ _ _ (ap not e))

  module _ (m : within 1 4096 M ≡ true) where
    pub write-bad : run_ok run ≡ false → not_written refused.BadEntry area ≡ write_call M run area
    unfolding write_call
    write-bad e = sym (if-false _ _ _ (ap not m) ∙ if-true _ _ _ (ap not e))

    module _ (r : run_ok run ≡ true) where
      pub write-many : 4096 < run_count run → not_written refused.TooMany area ≡ write_call M run area
      unfolding write_call
      write-many h = sym (if-false _ _ _ (ap not m) ∙ if-false _ _ _ (ap not r) ∙ if-true _ _ _ (lt-ltb 4096 (run_count run) h))

      module _ (h : run_count run ≤ 4096) where
        abbrev w : List ℕ
        w = journal M (entries (run_count run) run)

        room-only : writing w area ≡ write_call M run area
        unfolding write_call
        room-only = sym (if-false _ _ _ (ap not m) ∙ if-false _ _ _ (ap not r) ∙ if-false _ _ _ (le-ltb 4096 (run_count run) h))

        long : length w ≡ 50 * run_count run
        long = journal-length M (entries (run_count run) run) ∙ ap (λ (k : ℕ). 50 * k) (cells-length 32 entry_of (run_count run) run)

        pub write-no_room : length area < 50 * run_count run → not_written refused.NoRoom area ≡ write_call M run area
        write-no_room l = writes-no_room w area (50 * run_count run) long l ∙ room-only

        pub written : (after : List ℕ) → 50 * run_count run ≤ length area → after ≡ over (journal M (entries (run_count run) run)) area
            → ◌≡◌ {A = LeftWritten} (record { answer = Ok (50 * run_count run); area = after }) (write_call M run area)
        written after l p = writes w area (50 * run_count run) long after l p ∙ room-only

-- ---- appending

-- the ops are there
pub record Ops (from to : ℕ) (log results : List ℕ) : Type 0 where
  pub up : from ≤ to
  pub few : to ≤ 4096
  pub in-log : entry_place to ≤ length log
  pub in-results : result_place to ≤ length results

module _ (from to : ℕ) (log results : List ℕ) where
  pub ops-are : ops_there from to log results ≡ true → Ops from to log results
  unfolding ops_there
  ops-are e =
      let a = and_both _ _ e in
      let b = and_both _ _ a.1 in
      let c = and_both _ _ b.1 in
      record { up = leb-true _ _ a.0; few = leb-true _ _ b.0; in-log = leb-true _ _ c.0; in-results = leb-true _ _ c.1 }

  module _ (area : List ℕ) where
    pub append-out : ops_there from to log results ≡ false → not_written refused.OutOfRange area ≡ append_call from to log results area
    unfolding append_call
    append-out e = sym (if-true _ _ _ (ap not e))

    module _ (t : ops_there from to log results ≡ true) where
      there-only : writing (frames_in from to log results) area ≡ append_call from to log results area
      unfolding append_call
      there-only = sym (if-false _ _ _ (ap not t))

      in-long : length (frames_in from to log results) ≡ 50 * (to - from)
      unfolding frames_in
      in-long =
          let n = cells-length 32 entry_of (to - from) (drop (entry_place from) log) in
          frames-length from _ _ (n ∙ sym (cells-length 9 result_of (to - from) (drop (result_place from) results))) ∙ ap (λ (k : ℕ). 50 * k) n

      pub append-no_room : length area < 50 * (to - from) → not_written refused.NoRoom area ≡ append_call from to log results area
      append-no_room h = writes-no_room (frames_in from to log results) area (50 * (to - from)) in-long h ∙ there-only

      pub appended : (after : List ℕ) → 50 * (to - from) ≤ length area
          → after ≡ over (frames_after from (entries (to - from) (drop (entry_place from) log)) (outcomes (to - from) (drop (result_place from) results))) area
          → ◌≡◌ {A = LeftWritten} (record { answer = Ok (50 * (to - from)); area = after }) (append_call from to log results area)
      unfolding frames_in
      appended after h p = writes (frames_in from to log results) area (50 * (to - from)) in-long after h p ∙ there-only

-- ---- reading

module _ (M : ℕ) (file area totals : List ℕ) where
  pub read-out : totals_there M totals ≡ false → not_read refused.OutOfRange area totals ≡ read_call M file area totals
  unfolding read_call
  read-out e = sym (if-true _ _ _ (ap not e))

  module _ (t : totals_there M totals ≡ true) (j : Examined) (is : j ≡ examined M file) where
    examined-only : read_examined M j file area totals ≡ read_call M file area totals
    unfolding read_call
    examined-only = ap (λ (d : Examined). read_examined M d file area totals) is ∙ sym (if-false _ _ _ (ap not t))

    pub read-bad : (f : Fault) → j.fault ≡ Some f → not_read (refused.BadFrame (50 * j.frames) f) area totals ≡ read_call M file area totals
    unfolding read_examined
    read-bad f e =
        let r : read_examined M j file area totals ≡ not_read (refused.BadFrame (50 * j.frames) f) area totals = rw e in
        sym r ∙ examined-only

    module _ (z : j.fault ≡ None) where
      abbrev es : List Entry
      es = filed j.frames file

      count : length es ≡ j.frames
      count = cells-length 50 framed_entry j.frames file

      into-only : read_into M es area totals ≡ read_call M file area totals
      unfolding read_examined
      into-only =
          let r : read_examined M j file area totals ≡ read_into M es area totals = rw z in
          sym r ∙ examined-only

      pub read-no_room : length area < 32 * j.frames → not_read refused.NoRoom area totals ≡ read_call M file area totals
      unfolding read_into
      read-no_room h = sym (if-true _ _ _ (lt-ltb (length area) (32 * length es) (omega (arith, count)))) ∙ into-only

      pub read_done : (area' totals' : List ℕ) → 32 * j.frames ≤ length area → area' ≡ over (packed encode_entry (filed j.frames file)) area
          → totals' ≡ packed (big 8) (through (no_totals M) (filed j.frames file))
          → ◌≡◌ {A = LeftRead} (record { answer = Ok j.frames; area = area'; totals = totals' })
          (read_call M file area totals)
      unfolding read_into
      read_done area' totals' h p q =
          (λ i. record { answer = Ok (sym count i); area = p i; totals = q i })
          ∙ (sym (if-false _ _ _ (le-ltb (length area) (32 * length es) (omega (arith, count)))) ∙ into-only)
