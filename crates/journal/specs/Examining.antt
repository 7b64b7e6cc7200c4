-- Document 02, which frame of a journal is bad: one that is cut short; one whose length, version or entry is wrong; op numbers that don't run 1, 2, 3
-- to at most 4,096; an outcome or a total that the fee rules don't give. A file is examined frame by frame up to its first bad one. Assumes nothing.
use Rattle.std.specs.Prelude.{not, List, ℕ, zero, suc, eqb, ltb, length, drop, Option, Some, None, Result, Ok, Err}
use Rattle.std.specs.Result.{result_and}
use Rattle.numbers.specs.Words.{when◌then◌else◌}
use Rattle.numbers.specs.Numbers.{num}
use Rattle.entries.specs.Entries.{entry_ok}
use Rattle.fees.specs.declared.Outcome.{Outcome}
use Rattle.model.specs.Book.{outcome, totals_after}
use Rattle.journal.specs.Journal.{no_totals, framed_entry, framed_result}
use Rattle.journal.specs.declared.Examined.{Examined}
use Rattle.journal.specs.declared.refusal.Fault.{Fault}
use Rattle.journal.specs.declared.refusal.Fault.TheVariants as wrong

-- what is wrong with the frame at the front of s, which has to have this op number; nothing, where its form is good
unfoldable pub form_fault : (op : ℕ) (s : List ℕ) → Result (Unit {0}) Fault
form_fault op s =
    when ltb (length s) 50 then Err wrong.CutShort else
    when not (eqb (num 4 0 s) 46) then Err wrong.Length else
    when not (eqb (num 1 4 s) 1) then Err wrong.Version else
    when not (eqb (num 4 5 s) op) then Err wrong.OpNumber else
    when not (entry_ok (drop 9 s)) then Err wrong.Entry else
    Ok tt

-- what is wrong with a result that stands there, where the fee rules give the first one
unfoldable pub result_fault : (given stands : Outcome) → Result (Unit {0}) Fault
result_fault o r =
    when not (eqb r.code o.code) then Err wrong.Outcome else
    when not (eqb r.total o.total) then Err wrong.Total else
    Ok tt

-- both, on the members' totals before the frame
unfoldable pub fault : (op : ℕ) (ts s : List ℕ) → Result (Unit {0}) Fault
fault op ts s = result_and (form_fault op s) (result_fault (outcome ts (framed_entry s)) (framed_result s))

-- so many good frames, and what is wrong with what follows, if anything follows
abbrev pub examined_as : (frames : ℕ) (fault : Option Fault) → Examined
examined_as k f = record { frames = k; fault = f }

-- What is left of a file behind i good frames, after which the members have totals ts, where k more may come.
-- PastLast: frames past the last that may come.
unfoldable pub examined_after : (k i : ℕ) (ts s : List ℕ) → Examined
examined_after zero i ts s = when eqb (length s) 0 then examined_as i None else examined_as i (Some wrong.PastLast)
examined_after (suc k) i ts s =
    when eqb (length s) 0 then examined_as i None else
    elim (fault (suc i) ts s) [
      | Ok _ ↦ examined_after k (suc i) (totals_after ts (framed_entry s)) (drop 50 s)
      | Err f ↦ examined_as i (Some f)
    ]

-- a file, for M members
unfoldable pub examined : (M : ℕ) (file : List ℕ) → Examined
examined M file = examined_after 4096 0 (no_totals M) file
