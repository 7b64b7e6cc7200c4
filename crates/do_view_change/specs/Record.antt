-- record_do_view_change, send_do_view_change and on_do_view_change, on the state by value and the bytes of the lent runs. The quorum is judged
-- before anything is stored: 7, then 9 and 10, and a refusal undoes the whole call. The report that completes a quorum is not stored.
-- Assumes nothing.
use Rattle.std.specs.Prelude.{Bool, true, false, not, List, ◌++◌, ℕ, ◌+◌, ◌*◌, ◌≤◌, ◌<◌, ltb, eqb, length, take}
use Rattle.numbers.specs.Words.{when◌then◌else◌}
use Rattle.numbers.specs.Numbers.{over}
use Rattle.numbers.specs.declared.View.{View}
use Rattle.numbers.specs.declared.Op.{Op}
use Rattle.config.specs.Setup.{primary_of}
use Rattle.frames.specs.declared.Message.TheVariants.{DoViewChange}
use Rattle.writers.specs.Writers.{encode}
use Rattle.state.specs.State.{leads, changing_to, with_reports}
use Rattle.state.specs.Statuses.{is_normal}
use Rattle.state.specs.Answers.{refusal, completed, quiet}
use Rattle.state.specs.declared.Replica.{Replica}
use Rattle.state.specs.declared.Report.{Report}
use Rattle.state.specs.declared.Reports.{Reports}
use Rattle.reports.specs.Rows.{with_report}
use Rattle.reports.specs.Judge.{judged}
use Rattle.reports.specs.Store.{kept_log, chosen_over}
use Rattle.reports.specs.declared.Judged.{Judged}
use Rattle.reports.specs.declared.Judged.TheVariants.{Wait, Refuse, Begin}
use Rattle.steps.specs.Steps.{Spoke, spoke}
use Rattle.steps.specs.Recorded.{Recorded, recorded, only_sent}
use Rattle.book.specs.Memory.{Memory}
use Rattle.view_change.specs.StartView.{sent_start_view}
use Rattle.do_view_change.specs.Begin.{calls_first, first_length, start_views_length, entered, owed, Begun, begin_step}
use Rattle.do_view_change.specs.declared.Decision.{Decision}
use Rattle.do_view_change.specs.declared.Decision.TheVariants.{Keep, No, Start}
use Rattle.frames.specs.declared.Refusal.TheVariants.{Uncommits, NoRoomForMessages, NoRoomForReplies}

-- what refusals 3 to 5 leave of a report of replica r, whose log is in `fresh`
pub record Told (s : Replica) (r : ℕ) (o c : Op) (fresh : List ℕ) : Type 0 where
  pub sender : r < s.setup.n
  pub op_le : o.0 ≤ s.setup.room
  pub commit-le : c.0 ≤ o.0
  pub long : 32 * o.0 ≤ length fresh

-- a DoViewChange's last normal view, op and commit number
abbrev pub report_of : (last : View) (o c : Op) → Report
report_of l o c = record { there = true; full = true; view = l; op = o; commit = c }

-- our own
abbrev pub own_report : Replica → Report
own_report s = report_of s.normal s.op s.commit

-- 7, then 9 and 10, over areas of a and b bytes: the sums of all frames of the call
unfoldable pub decided_by : Judged → (t : Replica) (first : Bool) (a b : ℕ) → Decision
decided_by Wait t first a b = when ltb a (first_length first t) then No NoRoomForMessages else Keep
decided_by Refuse t first a b = No Uncommits
decided_by (Begin best g) t first a b =
    when ltb a (first_length first t + start_views_length (entered t best.report.op)) then No NoRoomForMessages else
    when ltb b (36 * owed t g) then No NoRoomForReplies else
    Start best g

-- with the rows that hold the new report, that of replica r
unfoldable pub decided : (t : Replica) (rows : Reports) (r : ℕ) (first : Bool) (a b : ℕ) (ours stored fresh : List ℕ) → Decision
decided t rows r first a b ours stored fresh =
    decided_by (judged rows t.setup.n r t.setup.room t.commit.0 ours stored fresh) t first a b

-- the report is kept, and more are waited for
unfoldable pub kept_by : (t : Replica) (rows : Reports) (r : ℕ) (o : Op) (first : Bool) (fresh : List ℕ) → Memory → Recorded
kept_by t rows r o first fresh m =
    recorded
    (completed (with_reports t rows) (first_length first t) 0 false)
    (record {
      runs = m.runs;
      acks = m.acks;
      stored = kept_log t.setup.room r o fresh m.stored;
      out = over (calls_first first t) m.out;
      reps = m.reps;
    })

-- what the beginning of a view leaves, with the log as it was installed
abbrev pub with_begun : (log stored : List ℕ) → Begun → Recorded
with_begun log stored d =
    recorded
    d.answer
    (record {
      runs = record { log = log; money = d.money };
      acks = d.acks;
      stored = stored;
      out = d.out;
      reps = d.reps;
    })

-- the view begins with the installed log, of o entries
unfoldable pub started_by : (t : Replica) (o g : Op) (first : Bool) (log : List ℕ) → Memory → Recorded
started_by t o g first log m =
    with_begun log m.stored (begin_step t o g first log m.runs.money m.acks m.out m.reps)

unfoldable pub by_decision : Decision → (s t : Replica) (rows : Reports) (r : ℕ) (o : Op) (first : Bool) (fresh : List ℕ) → Memory → Recorded
by_decision (No k) s t rows r o first fresh m = recorded (refusal k s) m
by_decision Keep s t rows r o first fresh m = kept_by t rows r o first fresh m
by_decision (Start b g) s t rows r o first fresh m =
    started_by t b.report.op g first (chosen_over b r t.setup.room m.stored fresh m.runs.log) m

-- record_do_view_change, from state t; s is the state as it was
unfoldable pub record_step : (s t : Replica) (r : ℕ) → Report → (first : Bool) (fresh : List ℕ) → Memory → Recorded
record_step s t r d first fresh m =
    by_decision
    (decided t (with_report t.reports r d) r first (length m.out) (length m.reps) m.runs.log m.stored fresh)
    s t (with_report t.reports r d) r d.op first fresh m

-- our DoViewChange, to the primary of our view
abbrev pub report_length : Replica → ℕ
report_length s = 24 + 32 * s.op.0

unfoldable pub report_to : Replica → List ℕ → List ℕ
report_to t log =
    encode (primary_of t.setup.n t.view) (DoViewChange t.view t.setup.id t.normal t.op t.commit)
    (take (32 * t.op.0) log)

unfoldable pub told_primary : (s t : Replica) (first : Bool) (log out : List ℕ) → Spoke
told_primary s t first log out =
    when ltb (length out) (first_length first t + report_length t) then spoke (refusal NoRoomForMessages s) out else
    spoke (completed t (first_length first t + report_length t) 0 false) (over (calls_first first t ++ report_to t log) out)

-- send_do_view_change
unfoldable pub send_step : (s t : Replica) (first : Bool) → Memory → Recorded
send_step s t first m =
    when leads t then record_step s t t.setup.id (own_report t) first m.runs.log m else
    only_sent m (told_primary s t first m.runs.log m.out)

-- on_do_view_change of replica r: its last normal view, op and commit number; `part` begins with its log
unfoldable pub do_view_change_step : Replica → View → (r : ℕ) (last : View) (o c : Op) (part : List ℕ) → Memory → Recorded
do_view_change_step s v r l o c part m =
    when ltb v.0 s.view.0 then recorded (quiet s) m else
    when not (eqb (primary_of s.setup.n v) s.setup.id) then recorded (quiet s) m else
    when ltb s.view.0 v.0 then record_step s (changing_to s v) r (report_of l o c) true part m else
    when is_normal s.status then only_sent m (sent_start_view s r m.runs.log m.out) else
    record_step s s r (report_of l o c) false part m
