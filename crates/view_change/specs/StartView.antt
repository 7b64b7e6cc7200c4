-- send_start_view and on_start_view, on the state by value and the bytes of the lent runs. A StartView of our own view is new only while we are
-- changing to it. Refusal 7 where it would shorten or alter our committed entries. PrepareOk then goes out always. Assumes nothing.
use Rattle.std.specs.Prelude.{◌≡◌, true, false, not, List, ℕ, ◌+◌, ◌*◌, ◌≤◌, ltb, length, take, replicate}
use Rattle.numbers.specs.Words.{when◌then◌else◌}
use Rattle.numbers.specs.Numbers.{over}
use Rattle.numbers.specs.declared.View.{View}
use Rattle.numbers.specs.declared.Op.{Op}
use Rattle.config.specs.Setup.{setup_ok}
use Rattle.frames.specs.declared.Message.TheVariants.{StartView}
use Rattle.writers.specs.Writers.{encode}
use Rattle.book.specs.Log.{with_entries, keeps_first}
use Rattle.state.specs.State.{with_log, normal_in}
use Rattle.state.specs.Statuses.{is_changing}
use Rattle.state.specs.Answers.{refusal, completed, quiet}
use Rattle.state.specs.Lengths.{log_length}
use Rattle.state.specs.declared.Returned.{Returned}
use Rattle.state.specs.declared.Replica.{Replica}
use Rattle.steps.specs.Steps.{Spoke, Left, spoke, committed_and_acked}
use Rattle.book.specs.Memory.{Runs, Memory}
use Rattle.view_change.specs.declared.StartViewVerdict.{StartViewVerdict}
use Rattle.view_change.specs.declared.StartViewVerdict.TheVariants.{Ignore, Refuse, Join}
use Rattle.steps.specs.Recorded.{Recorded, recorded}
use Rattle.frames.specs.declared.Refusal.TheVariants.{Uncommits, NoRoomForMessages}

-- what refusal 1 leaves, of the log
pub record LogHeld (s : Replica) (log : ℕ) : Type 0 where
  pub sized : setup_ok s.setup ≡ true
  pub op_le : s.op.0 ≤ s.setup.room
  pub log-long : log ≡ log_length s.setup

-- what refusals 4 and 5 on the frame alone leave
pub record LogPassed (s : Replica) (o c : Op) : Type 0 where
  pub op_le : o.0 ≤ s.setup.room
  pub commit-le : c.0 ≤ o.0

-- a StartView with our log
abbrev pub start_view_length : Replica → ℕ
start_view_length s = 19 + 32 * s.op.0

-- send_start_view, to one replica
unfoldable pub sent_start_view : Replica → (to : ℕ) (log out : List ℕ) → Spoke
sent_start_view s to log out =
    when ltb (length out) (start_view_length s) then spoke (refusal NoRoomForMessages s) out else
    spoke
    (completed s (start_view_length s) 0 false)
    (over (encode to (StartView s.view s.op s.commit) (take (32 * s.op.0) log)) out)

-- refusal 7
unfoldable pub keep_verdict : Replica → Op → (part log : List ℕ) → StartViewVerdict
keep_verdict s o part log = when keeps_first s.commit.0 log o.0 part then Join else Refuse

unfoldable pub start_view_verdict : Replica → View → Op → (part log : List ℕ) → StartViewVerdict
start_view_verdict s v o part log =
    when ltb v.0 s.view.0 then Ignore else
    when ltb s.view.0 v.0 then keep_verdict s o part log else
    when not (is_changing s.status) then Ignore else
    keep_verdict s o part log

-- what a StartView leaves: the answer, log, results and totals, acks, and the area for messages
pub record Joined : Type 0 where
  pub answer : Returned
  pub runs : Runs
  pub acks : List ℕ
  pub out : List ℕ

abbrev pub joined : Returned → Runs → (acks out : List ℕ) → Joined
joined a x acks out = record { answer = a; runs = x; acks = acks; out = out }

-- what a StartView leaves, beside what it is not lent
abbrev pub of_joined : Memory → Joined → Recorded
of_joined m d = recorded d.answer (record { runs = d.runs; acks = d.acks; stored = m.stored; out = d.out; reps = m.reps })

-- the log that is carried, in place of ours
abbrev pub with_log_of : Op → (part : List ℕ) → Runs → Runs
with_log_of o part x = record { log = with_entries 0 (take (32 * o.0) part) x.log; money = x.money }

-- acks.clear, beside a step
abbrev pub clearing : Replica → List ℕ → Left → Joined
clearing s acks d = joined d.answer d.runs (over (replicate s.setup.room 0) acks) d.out

-- install_log, acks cleared, commit, PrepareOk
unfoldable pub joined_by : Replica → View → (o c : Op) (part : List ℕ) → Runs → (acks out : List ℕ) → Joined
joined_by s v o c part x acks out =
    when ltb (length out) 16 then joined (refusal NoRoomForMessages s) x acks out else
    clearing s acks (committed_and_acked s (with_log (normal_in s v) o s.commit) c true (with_log_of o part x) out)

unfoldable pub by_start_view_verdict : StartViewVerdict → Replica → View → (o c : Op) (part : List ℕ) → Runs → (acks out : List ℕ) → Joined
by_start_view_verdict Ignore s v o c part x acks out = joined (quiet s) x acks out
by_start_view_verdict Refuse s v o c part x acks out = joined (refusal Uncommits s) x acks out
by_start_view_verdict Join s v o c part x acks out = joined_by s v o c part x acks out

-- on_start_view; `part` begins with the o entries that it carries
unfoldable pub start_view_step : Replica → View → (o c : Op) (part : List ℕ) → Runs → (acks out : List ℕ) → Joined
start_view_step s v o c part x acks out = by_start_view_verdict (start_view_verdict s v o part x.log) s v o c part x acks out
