-- send_recovery, on_recovery and on_recovery_response, on the state by value and the bytes of the lent runs. A quorum of responses is judged before
-- anything is stored; the response that ends the recovery is not stored. Assumes nothing.
use Rattle.std.specs.Prelude.{Option, Some, None, ◌≡◌, true, false, not, List, [], ℕ, ◌+◌, ◌-◌, ◌*◌, ◌≤◌, ◌<◌, ltb, eqb, length, take}
use Rattle.numbers.specs.Words.{when◌then◌else◌}
use Rattle.numbers.specs.Numbers.{over}
use Rattle.numbers.specs.declared.View.{View}
use Rattle.numbers.specs.declared.Op.{Op}
use Rattle.frames.specs.declared.Message.TheVariants.{Recovery, RecoveryResponse}
use Rattle.frames.specs.declared.Progress.{Progress}
use Rattle.writers.specs.Writers.{encode, to_others}
use Rattle.state.specs.State.{leads, with_log, normal_in, with_reports}
use Rattle.state.specs.Statuses.{is_normal}
use Rattle.state.specs.Answers.{refusal, completed, quiet}
use Rattle.state.specs.Lengths.{stored_length}
use Rattle.state.specs.declared.Returned.{Returned}
use Rattle.state.specs.declared.Replica.{Replica}
use Rattle.state.specs.declared.Report.{Report}
use Rattle.state.specs.declared.Reports.{Reports}
use Rattle.reports.specs.Rows.{with_report}
use Rattle.state.specs.Sound.{gathered_ok}
use Rattle.reports.specs.Judge.{responded}
use Rattle.reports.specs.Store.{kept_log, chosen_over}
use Rattle.reports.specs.declared.Best.{Best}
use Rattle.reports.specs.declared.Judged.{Judged}
use Rattle.reports.specs.declared.Judged.TheVariants.{Wait, Refuse, Begin}
use Rattle.steps.specs.Steps.{Sound, Spoke, spoke, committed_to, settled}
use Rattle.book.specs.Memory.{Runs, Memory}
use Rattle.view_change.specs.StartViewChange.{started_change}
use Rattle.steps.specs.Recorded.{Recorded, recorded}
use Rattle.frames.specs.declared.Refusal.TheVariants.{Uncommits, NoRoomForMessages}
use Rattle.frames.specs.Messages.{progress}

-- Recovery to all others
abbrev pub recoveries_length : Replica → ℕ
recoveries_length s = 20 * (s.setup.n - 1)

abbrev pub recoveries_of : Replica → List ℕ
recoveries_of s = to_others s.setup.n s.setup.id (Recovery s.setup.id s.nonce s.view) []

-- send_recovery, of on_idle in Recovering: the clock is left alone
unfoldable pub recovering_tick : Replica → List ℕ → Spoke
recovering_tick s out =
    when ltb (length out) (recoveries_length s) then spoke (refusal NoRoomForMessages s) out else
    spoke (completed s (recoveries_length s) 0 false) (over (recoveries_of s) out)

-- on_recovery, its answer: a primary's with its log
abbrev pub full_length : Replica → ℕ
full_length s = 29 + 32 * s.op.0

unfoldable pub full_answer : Replica → (r x : ℕ) (log out : List ℕ) → Spoke
full_answer s r x log out =
    when ltb (length out) (full_length s) then spoke (refusal NoRoomForMessages s) out else
    spoke
    (completed s (full_length s) 0 false)
    (over (encode r (RecoveryResponse s.view x s.setup.id (Some (progress s.op s.commit))) (take (32 * s.op.0) log)) out)

-- a backup's without
unfoldable pub bare_answer : Replica → (r x : ℕ) → List ℕ → Spoke
bare_answer s r x out =
    when ltb (length out) 21 then spoke (refusal NoRoomForMessages s) out else
    spoke (completed s 21 0 false) (over (encode r (RecoveryResponse s.view x s.setup.id None) []) out)

-- on_recovery of replica r, with its nonce and view: one of a later view starts the view change, and isn't answered
unfoldable pub recovery_step : Replica → (r x : ℕ) → View → (log out : List ℕ) → Spoke
recovery_step s r x v log out =
    when ltb s.view.0 v.0 then started_change s s v out else
    when not (is_normal s.status) then spoke (quiet s) out else
    when leads s then full_answer s r x log out else
    bare_answer s r x out

-- what is held of a RecoveryResponse of view v
unfoldable pub response_of : View → Option Progress → Report
response_of v None = record { there = true; full = false; view = v; op = record { 0 = 0 }; commit = record { 0 = 0 } }
response_of v (Some p) = record { there = true; full = true; view = v; op = p.op; commit = p.commit }

-- what refusal 1 leaves
pub record Collecting (s : Replica) (x : Runs) (stored : ℕ) : Type 0 where
  pub sound : Sound s x
  pub reports : gathered_ok s.setup s.starts s.reports.rows ≡ true
  pub stored-long : stored ≡ stored_length s.setup

-- what refusals 3 to 5 leave of a response d of replica r, whose log is in `fresh`
pub record ResponsePassed (s : Replica) (r : ℕ) (d : Report) (fresh : ℕ) : Type 0 where
  pub sender : r < s.setup.n
  pub op_le : d.op.0 ≤ s.setup.room
  pub commit-le : d.commit.0 ≤ d.op.0
  pub long : 32 * d.op.0 ≤ fresh

-- what a response leaves: the answer, log, results and totals, and the stored logs
pub record Collected : Type 0 where
  pub answer : Returned
  pub runs : Runs
  pub stored : List ℕ

abbrev pub collected : Returned → Runs → List ℕ → Collected
collected a x stored = record { answer = a; runs = x; stored = stored }

-- what a response leaves, beside what it is not lent
abbrev pub of_collected : Memory → Collected → Recorded
of_collected m d = recorded d.answer (record { runs = d.runs; acks = m.acks; stored = d.stored; out = m.out; reps = m.reps })

-- Normal in the view of the chosen response, with its log
abbrev pub back_in : Replica → Best → Replica
back_in s b = with_log (normal_in s b.report.view) b.report.op s.commit

-- the chosen log in place of ours
abbrev pub with_chosen : Replica → Best → (r : ℕ) (stored fresh : List ℕ) → Runs → Runs
with_chosen s b r stored fresh x = record { log = chosen_over b r s.setup.room stored fresh x.log; money = x.money }

-- install_log, commit, enter_normal; no PrepareOk. acks stay as they are.
unfoldable pub recovered_by : Replica → Best → (g : Op) (r : ℕ) (fresh : List ℕ) → Runs → (stored : List ℕ) → Collected
recovered_by s b g r fresh x stored =
    collected
    (completed (committed_to (back_in s b) g (with_chosen s b r stored fresh x)) 0 0 true)
    (settled (back_in s b) g (with_chosen s b r stored fresh x))
    stored

-- by what the response leads to, `rows` holding it
unfoldable pub by_response : Judged → Replica → (rows : Reports) (r : ℕ) → Op → (fresh : List ℕ) → Runs → (stored : List ℕ) → Collected
by_response Wait s rows r o fresh x stored =
    collected (quiet (with_reports s rows)) x (kept_log s.setup.room r o fresh stored)
by_response Refuse s rows r o fresh x stored = collected (refusal Uncommits s) x stored
by_response (Begin b g) s rows r o fresh x stored = recovered_by s b g r fresh x stored

-- the response d of replica r is recorded: a later one of a sender replaces an earlier one, even with a lower view
unfoldable pub collected_by : Replica → (r : ℕ) → Report → (fresh : List ℕ) → Runs → (stored : List ℕ) → Collected
collected_by s r d fresh x stored =
    by_response
    (responded (with_report s.reports r d) s.setup.n r s.setup.room s.view.0 s.commit.0 x.log stored fresh)
    s (with_report s.reports r d) r d.op fresh x stored

-- on_recovery_response of view v, to the nonce x, from replica r; `part` begins with the log that it carries
unfoldable pub response_step : Replica → View → (x r : ℕ) → Option Progress → (part : List ℕ) → Runs → (stored : List ℕ) → Collected
response_step s v x r state part y stored =
    when not (eqb x s.nonce) then collected (quiet s) y stored else
    collected_by s r (response_of v state) part y stored
