-- What the steps of writing and of examining a journal promise to the calls that take them. Members are taken in groups of 64, those from `low` on, so
-- that the totals of a group take 512 bytes; the last group has those too who are no members. Assumes nothing.
use Rattle.std.specs.Prelude.{◌≡◌, Bool, true, false, List, ℕ, ◌+◌, ◌-◌, ◌*◌, ◌≤◌, ◌<◌, leb, ltb, min, length, take, drop, Some, None, Result, Ok, Err}
use Rattle.numbers.specs.Words.{when◌then◌else◌}
use Rattle.entries.specs.Entries.{entry_of, entries}
use Rattle.entries.specs.declared.Entry.{Entry}
use Rattle.model.specs.Book.{outcome, through}
use Rattle.journal.specs.Journal.{journal_frame, no_totals, framed_entry, framed_result, filed}
use Rattle.journal.specs.Examining.{form_fault, result_fault, fault, examined}
use Rattle.journal.specs.declared.Examined.{Examined}
use Rattle.journal.specs.declared.refusal.Fault.{Fault}
use Rattle.journal.specs.declared.refusal.Fault.TheVariants as wrong

-- ---- groups

-- how many members a group has
unfoldable pub group_size : (M low : ℕ) → ℕ
group_size M low = min (M - low) 64

-- whether an entry of this member is taken with the group
unfoldable pub in_group : (M low member : ℕ) → Bool
in_group M low m =
    when ltb m low then false else
    when ltb (m - low) 64 then true else
    leb (M - low) 64

-- whether it is taken with a group before this one
unfoldable pub groups_below : (M low member : ℕ) → Bool
groups_below M low m = when ltb m low then true else leb M low

-- an entry, its member being counted from the group's first
abbrev pub group_entry : (low : ℕ) → Entry → Entry
group_entry low e =
    record e { member = e.member - low }

-- ---- examining

-- the members' totals that the entries of the first i frames give, whatever results stand beside them
abbrev pub totals_filed : (M i : ℕ) (file : List ℕ) → List ℕ
totals_filed M i file = through (no_totals M) (filed i file)

-- what is wrong with the result in frame number i + 1
abbrev pub result_fault_in : (M i : ℕ) (file : List ℕ) → Result (Unit {0}) Fault
result_fault_in M i file =
    result_fault (outcome (totals_filed M i file) (framed_entry (drop (50 * i) file))) (framed_result (drop (50 * i) file))

-- behind k frames the file goes on with a bad one, by this fault
pub record GoesOnBadly (M : ℕ) (file : List ℕ) (k : ℕ) (f : Fault) : Type 0 where
  pub more : 50 * k < length file
  pub past : 4096 ≤ k → f ≡ wrong.PastLast
  pub bad : k < 4096 → fault (k + 1) (totals_filed M k file) (drop (50 * k) file) ≡ Err f

-- All forms were looked at, and the results of the groups below low: up to the first frame that is bad by what was looked at, file is examined as j.
pub record ExaminedBelow (M low : ℕ) (file : List ℕ) (j : Examined) : Type 0 where
  pub few : j.frames ≤ 4096
  pub there : 50 * j.frames ≤ length file
  pub forms : (i : ℕ) → i < j.frames → form_fault (i + 1) (drop (50 * i) file) ≡ Ok tt
  pub results : (i : ℕ) → i < j.frames → groups_below M low (framed_entry (drop (50 * i) file)).member ≡ true → result_fault_in M i file ≡ Ok tt
  pub ends : j.fault ≡ None → length file ≤ 50 * j.frames
  pub goes_on : (f : Fault) → j.fault ≡ Some f → GoesOnBadly M file j.frames f

-- no result was looked at, so that it holds of any M
abbrev pub ExaminesForms : (file : List ℕ) → Examined → Type 0
ExaminesForms file j = (M : ℕ) → 1 ≤ M → ExaminedBelow M 0 file j

pub record Examines (M : ℕ) (file : List ℕ) (j : Examined) : Type 0 where
  pub is : j ≡ examined M file
  pub few : j.frames ≤ 4096
  pub there : 50 * j.frames ≤ length file
  pub whole : j.fault ≡ None → length file ≡ 50 * j.frames

-- ---- writing

-- the entry of op number k + 1 in a run, the members' totals before it, and its frame
abbrev pub entry_of_run : (k : ℕ) (run : List ℕ) → Entry
entry_of_run k run = entry_of (drop (32 * k) run)

abbrev pub totals_of_run : (M k : ℕ) (run : List ℕ) → List ℕ
totals_of_run M k run = through (no_totals M) (entries k run)

abbrev pub frame_of_run : (M k : ℕ) (run : List ℕ) → List ℕ
frame_of_run M k run = journal_frame (k + 1) (entry_of_run k run) (outcome (totals_of_run M k run) (entry_of_run k run))

-- Of n frames those of a group are written over an area, and nothing else of it is changed.
pub record WritesGroup (M low n : ℕ) (run before after : List ℕ) : Type 0 where
  pub long : length after ≡ length before
  pub behind : drop (50 * n) after ≡ drop (50 * n) before
  pub frames : (k : ℕ) → k < n → in_group M low (entry_of_run k run).member ≡ true → take 50 (drop (50 * k) after) ≡ frame_of_run M k run
  pub others : (k : ℕ) → k < n → in_group M low (entry_of_run k run).member ≡ false
      → take 50 (drop (50 * k) after) ≡ take 50 (drop (50 * k) before)
