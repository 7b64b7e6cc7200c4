-- The state as a run of 154 bytes, for callers that aren't Rattle: setup 12 (n 1, id 1, T 2, L 4, M 4); status 1, view 4, last normal view 4, catching up 1, op
-- number 4, commit number 4; clock 8 (heard 1, waiting 4, stable 2, attempts 1); who asked for this view 1, DoViewChange sent 1, nonce 8; then for each of
-- seven replica ids a report, 14: there 1, with a log 1, view 4, op number 4, commit number 4; takings 8. A status is 0 Normal, 1 StateTransfer, 2 ViewChange,
-- 3 Recovering; a flag is 0 or 1. Any other number there is a byte without meaning, and refusal 1. Assumes nothing.
use Rattle.std.specs.Prelude.{◌≡◌, Option, Some, None, Bool, true, false, not, List, [], ◌∷◌, ◌++◌, ℕ, zero, suc, ◌^◌, ◌<◌, eqb, leb, length, get_or, take, drop}
use Rattle.numbers.specs.Words.{when◌then◌else◌, ◌and◌}
use Rattle.numbers.specs.Numbers.{big, num, view_at, op_at}
use Rattle.numbers.specs.Cells.{cells, packed}
use Rattle.numbers.specs.declared.Op.{Op}
use Rattle.config.specs.declared.Setup.{Setup}
use Rattle.clock.specs.declared.Clock.{Clock}
use Rattle.frames.specs.Looks.{status_number}
use Rattle.frames.specs.declared.Status.{Status}
use Rattle.frames.specs.declared.Status.TheVariants.{Normal, StateTransfer, ViewChange, Recovering}
use Rattle.state.specs.State.{with_clock}
use Rattle.state.specs.Statuses.{no_report}
use Rattle.state.specs.declared.Replica.{Replica}
use Rattle.state.specs.declared.Report.{Report}
use Rattle.state.specs.declared.Reports.{Reports}
use Rattle.state_bytes.specs.declared.Look.{Look}
use Rattle.state_bytes.specs.declared.Look.TheVariants.{Quiet, Reporting}

-- flags
unfoldable pub flag_ok : ℕ → Bool
flag_ok k = leb k 1

unfoldable pub flag_of : ℕ → Bool
flag_of k = not (eqb k 0)

unfoldable pub flag_number : Bool → ℕ
flag_number true = 1
flag_number false = 0

-- the status of a number; its number is `status_number`
unfoldable pub status_of : ℕ → Status
status_of k =
    when eqb k 0 then Normal else
    when eqb k 1 then StateTransfer else
    when eqb k 2 then ViewChange else
    Recovering

-- the setup
unfoldable pub setup_of : List ℕ → Setup
setup_of s = record { n = num 1 0 s; id = num 1 1 s; timeout = num 2 2 s; room = num 4 4 s; members = num 4 8 s }

unfoldable pub encode_setup : Setup → List ℕ
encode_setup u = big 1 u.n ++ big 1 u.id ++ big 2 u.timeout ++ big 4 u.room ++ big 4 u.members

-- the clock
unfoldable pub clock_of : List ℕ → Clock
clock_of s = record { heard = flag_of (num 1 0 s); waiting = num 4 1 s; stable = num 2 5 s; attempts = num 1 7 s }

unfoldable pub encode_clock : Clock → List ℕ
encode_clock c = big 1 (flag_number c.heard) ++ big 4 c.waiting ++ big 2 c.stable ++ big 1 c.attempts

-- a report
unfoldable pub report_in : List ℕ → Report
report_in s =
    record { there = flag_of (num 1 0 s); full = flag_of (num 1 1 s); view = view_at 2 s; op = op_at 6 s; commit = op_at 10 s }

unfoldable pub encode_report : Report → List ℕ
encode_report d =
    big 1 (flag_number d.there) ++ big 1 (flag_number d.full) ++ big 4 d.view.0 ++ big 4 d.op.0 ++ big 4 d.commit.0

-- what the types of a report's fields say
pub record ReportFits (d : Report) : Type 0 where
  pub view : d.view.0 < 2 ^ 32
  pub op : d.op.0 < 2 ^ 32
  pub commit : d.commit.0 < 2 ^ 32

-- one for each replica id
unfoldable pub reports_of : List ℕ → Reports
reports_of s = record { rows = cells 14 report_in 7 s }

unfoldable pub encode_reports : Reports → List ℕ
encode_reports t = packed encode_report t.rows

-- what the type of the reports says
pub record ReportsFit (t : Reports) : Type 0 where
  pub seven : length t.rows ≡ 7
  pub each : (i : ℕ) → i < 7 → ReportFits (get_or t.rows i no_report)

-- the flags of the first k reports have a meaning
unfoldable pub all_reports_ok : ℕ → List ℕ → Bool
all_reports_ok zero s = true
all_reports_ok (suc k) s = flag_ok (num 1 0 s) and flag_ok (num 1 1 s) and all_reports_ok k (drop 14 s)

-- bytes that are all zero
unfoldable pub all_zero : List ℕ → Bool
all_zero [] = true
all_zero (b ∷ bs) = when eqb b 0 then all_zero bs else false

-- no report is there and nothing stands in its place, as outside of a view change and a recovery
unfoldable pub is_quiet : List ℕ → Bool
is_quiet s = all_zero (take 98 (drop 48 s))

-- the state that a run holds, with these reports
abbrev pub state_with : List ℕ → Reports → Replica
state_with s reports =
    record {
      setup = setup_of s;
      status = status_of (num 1 12 s);
      view = view_at 13 s;
      normal = view_at 17 s;
      catching = flag_of (num 1 21 s);
      op = op_at 22 s;
      commit = op_at 26 s;
      takings = num 8 146 s;
      clock = clock_of (drop 30 s);
      starts = num 1 38 s;
      sent = flag_of (num 1 39 s);
      nonce = num 8 40 s;
      reports = reports;
    }

-- the state that a run holds
unfoldable pub state_of : List ℕ → Replica
state_of s = state_with s (reports_of (drop 48 s))

-- the bytes of a state
unfoldable pub encode_place : Replica → List ℕ
encode_place s =
    big 1 (status_number s.status) ++ big 4 s.view.0 ++ big 4 s.normal.0 ++ big 1 (flag_number s.catching)
    ++ big 4 s.op.0 ++ big 4 s.commit.0

unfoldable pub encode_votes : Replica → List ℕ
encode_votes s = big 1 s.starts ++ big 1 (flag_number s.sent) ++ big 8 s.nonce

unfoldable pub encode_state : Replica → List ℕ
encode_state s =
    encode_setup s.setup ++ encode_place s ++ encode_clock s.clock ++ encode_votes s ++ encode_reports s.reports ++ big 8 s.takings

-- what the types of a state's fields say
pub record StateFits (s : Replica) : Type 0 where
  pub n : s.setup.n < 2 ^ 8
  pub id : s.setup.id < 2 ^ 8
  pub timeout : s.setup.timeout < 2 ^ 16
  pub room : s.setup.room < 2 ^ 32
  pub members : s.setup.members < 2 ^ 32
  pub view : s.view.0 < 2 ^ 32
  pub normal : s.normal.0 < 2 ^ 32
  pub op : s.op.0 < 2 ^ 32
  pub commit : s.commit.0 < 2 ^ 32
  pub takings : s.takings < 2 ^ 64
  pub waiting : s.clock.waiting < 2 ^ 32
  pub stable : s.clock.stable < 2 ^ 16
  pub attempts : s.clock.attempts < 2 ^ 8
  pub starts : s.starts < 2 ^ 8
  pub nonce : s.nonce < 2 ^ 64
  pub reports : ReportsFit s.reports

-- a state that goes on in its view: status, op and commit number, takings, and whether the primary was heard, are others
abbrev pub onward : Replica → Status → (op commit : Op) (takings : ℕ) (heard : Bool) → Replica
onward s status op commit takings heard =
    record {
      setup = s.setup;
      status = status;
      view = s.view;
      normal = s.normal;
      catching = s.catching;
      op = op;
      commit = commit;
      takings = takings;
      clock = record { heard = heard; waiting = s.clock.waiting; stable = s.clock.stable; attempts = s.clock.attempts };
      starts = s.starts;
      sent = s.sent;
      nonce = s.nonce;
      reports = s.reports;
    }

-- t is s but for these
abbrev pub Onward : (s t : Replica) → Type 0
Onward s t = t ≡ onward s t.status t.op t.commit t.takings t.clock.heard

-- t is s but for its clock
abbrev pub Clocked : (s t : Replica) → Type 0
Clocked s t = t ≡ with_clock s t.clock

-- a run is 154 bytes long, and its status and flags have a meaning, those of the reports left aside
unfoldable pub front_ok : List ℕ → Bool
front_ok s =
    when not (eqb (length s) 154) then false else
    leb (num 1 12 s) 3 and flag_ok (num 1 21 s) and flag_ok (num 1 30 s) and flag_ok (num 1 39 s)

-- a run holds a state: it is 154 bytes long, and no byte of it is without meaning
unfoldable pub state_ok : List ℕ → Bool
state_ok s = front_ok s and all_reports_ok 7 (drop 48 s)

-- what a look over a run tells: whether it holds a state, and whether that is then one without reports
unfoldable pub look_of : List ℕ → Option Look
look_of s =
    when not (state_ok s) then None else
    when is_quiet s then Some Quiet else
    Some Reporting

abbrev pub looks_quiet : Look → Bool
looks_quiet Quiet = true
looks_quiet Reporting = false

-- A writer's promise: the run is the state's bytes, it passes, and the state is read back from it.
pub record HoldsState (s : Replica) (run : List ℕ) : Type 0 where
  pub bytes : run ≡ encode_state s
  pub ok : state_ok run ≡ true
  pub back : state_of run ≡ s
