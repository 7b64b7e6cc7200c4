-- on_new_state, on the state by value and the bytes of the lent runs. In StateTransfer it must start at or before our log's end and end beyond it;
-- only the excess is appended. Catching up, it must start exactly at our commit number. Refusal 6 only where it is used, on the log that would
-- result. Acks aren't cleared. Assumes nothing.
use Rattle.std.specs.Prelude.{Bool, true, false, not, List, ℕ, ◌-◌, ◌*◌, ◌≤◌, ltb, leb, eqb, length, take, drop}
use Rattle.numbers.specs.Words.{when◌then◌else◌}
use Rattle.numbers.specs.declared.View.{View}
use Rattle.entries.specs.Entries.{entries}
use Rattle.frames.specs.declared.Status.TheVariants.{Normal}
use Rattle.book.specs.Log.{with_entries, rises_after}
use Rattle.state.specs.State.{heard_by, with_status, with_log, normal_in}
use Rattle.state.specs.Statuses.{is_transfer, is_changing}
use Rattle.state.specs.Answers.{refusal, quiet}
use Rattle.state.specs.declared.Replica.{Replica}
use Rattle.steps.specs.Steps.{Left, left, committed_and_acked}
use Rattle.book.specs.Memory.{Runs}
use Rattle.transfer.specs.declared.Part.{Part}
use Rattle.transfer.specs.declared.Use.{Use}
use Rattle.transfer.specs.declared.Use.TheVariants.{Ignore, Hear, Fill, Install}
use Rattle.numbers.specs.declared.Op.{Op}
use Rattle.frames.specs.declared.Refusal.TheVariants.{NotRising, NoRoomForMessages}

-- what refusals 2 to 5 on the frame alone leave
pub record PartPassed (s : Replica) (p : Part) : Type 0 where
  pub start-le : p.start.0 ≤ p.end.0
  pub end-le : p.end.0 ≤ s.setup.room
  pub commit-le : p.commit.0 ≤ p.end.0

-- the numbers of a NewState beside its view
abbrev pub part_of : (start end commit : Op) → Part
part_of a z c = record { start = a; end = z; commit = c }

unfoldable pub transfer_use : Replica → Part → Use
transfer_use s p =
    when ltb s.op.0 p.start.0 then Hear else
    when leb p.end.0 s.op.0 then Hear else
    Fill

unfoldable pub change_use : Replica → Part → Use
change_use s p =
    when not s.catching then Hear else
    when not (eqb p.start.0 s.commit.0) then Hear else
    Install

-- one of our view counts as heard, in Normal too
unfoldable pub use_of : Replica → View → Part → Use
use_of s v p =
    when not (eqb v.0 s.view.0) then Ignore else
    when is_transfer s.status then transfer_use s p else
    when is_changing s.status then change_use s p else
    Hear

-- k entries of `part` after the first n of the log
abbrev pub with_part : (n k : ℕ) (part : List ℕ) → Runs → Runs
with_part n k part x = record { log = with_entries n (take (32 * k) part) x.log; money = x.money }

-- The log's first n entries and then the k of `part`: refusal 6, then 9; then the state t commits and acknowledges.
unfoldable pub extended : (s t : Replica) (n k : ℕ) → Part → (installed : Bool) (part : List ℕ) → Runs → List ℕ → Left
extended s t n k p installed part x out =
    when not (rises_after (entries n x.log) (entries k part)) then left (refusal NotRising s) x out else
    when ltb (length out) 16 then left (refusal NoRoomForMessages s) x out else
    committed_and_acked s t p.commit installed (with_part n k part x) out

-- in StateTransfer: `rest` begins with the excess
unfoldable pub gap_filled : Replica → Part → (rest : List ℕ) → Runs → List ℕ → Left
gap_filled s p rest x out =
    extended s (with_log (with_status (heard_by s) Normal) p.end s.commit) s.op.0 (p.end.0 - s.op.0) p false rest x out

-- catching up: what we had beyond our commit number is replaced
unfoldable pub installed : Replica → Part → (part : List ℕ) → Runs → List ℕ → Left
installed s p part x out =
    extended s (with_log (normal_in s s.view) p.end s.commit) s.commit.0 (p.end.0 - p.start.0) p true part x out

unfoldable pub by_use : Use → Replica → Part → (part : List ℕ) → Runs → List ℕ → Left
by_use Ignore s p part x out = left (quiet s) x out
by_use Hear s p part x out = left (quiet (heard_by s)) x out
by_use Fill s p part x out = gap_filled s p (drop (32 * (s.op.0 - p.start.0)) part) x out
by_use Install s p part x out = installed s p part x out

-- on_new_state; `part` begins with its entries
unfoldable pub new_state_step : Replica → View → Part → (part : List ℕ) → Runs → List ℕ → Left
new_state_step s v p part x out = by_use (use_of s v p) s p part x out
