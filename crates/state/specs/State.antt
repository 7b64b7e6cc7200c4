-- The state that a replica holds by value, and each change of it: the Rust's functions of the same names, less what lies in lent runs.
-- Assumes nothing.
use Rattle.std.specs.Prelude.{Bool, true, false, eqb, ℕ}
use Rattle.numbers.specs.declared.View.{View}
use Rattle.numbers.specs.declared.Op.{Op}
use Rattle.config.specs.Setup.{primary_of}
use Rattle.config.specs.Replicas.{with_another}
use Rattle.config.specs.declared.Setup.{Setup}
use Rattle.clock.specs.Clock.{fresh_clock, heard_of, reset_of, start_of, restart_of}
use Rattle.clock.specs.declared.Clock.{Clock}
use Rattle.frames.specs.declared.Status.{Status}
use Rattle.frames.specs.declared.Status.TheVariants.{Normal, ViewChange}
use Rattle.state.specs.Statuses.{is_changing, no_reports}
use Rattle.state.specs.declared.Reports.{Reports}
use Rattle.state.specs.declared.Replica.{Replica}

-- is_primary
unfoldable pub leads : Replica → Bool
leads s = eqb s.setup.id (primary_of s.setup.n s.view)

-- another clock
abbrev pub with_clock : Replica → Clock → Replica
with_clock s c =
    record {
      setup = s.setup;
      status = s.status;
      view = s.view;
      normal = s.normal;
      catching = s.catching;
      op = s.op;
      commit = s.commit;
      takings = s.takings;
      clock = c;
      starts = s.starts;
      sent = s.sent;
      nonce = s.nonce;
      reports = s.reports;
    }

-- heard_from_primary
abbrev pub heard_by : Replica → Replica
heard_by s = with_clock s (heard_of s.clock).clock

-- another status
abbrev pub with_status : Replica → Status → Replica
with_status s status =
    record {
      setup = s.setup;
      status = status;
      view = s.view;
      normal = s.normal;
      catching = s.catching;
      op = s.op;
      commit = s.commit;
      takings = s.takings;
      clock = s.clock;
      starts = s.starts;
      sent = s.sent;
      nonce = s.nonce;
      reports = s.reports;
    }

-- other op and commit numbers
abbrev pub with_log : Replica → (op commit : Op) → Replica
with_log s op commit =
    record {
      setup = s.setup;
      status = s.status;
      view = s.view;
      normal = s.normal;
      catching = s.catching;
      op = op;
      commit = commit;
      takings = s.takings;
      clock = s.clock;
      starts = s.starts;
      sent = s.sent;
      nonce = s.nonce;
      reports = s.reports;
    }

-- another commit number and other takings: what commits change
abbrev pub with_commit : Replica → (commit : Op) (takings : ℕ) → Replica
with_commit s commit takings =
    record {
      setup = s.setup;
      status = s.status;
      view = s.view;
      normal = s.normal;
      catching = s.catching;
      op = s.op;
      commit = commit;
      takings = takings;
      clock = s.clock;
      starts = s.starts;
      sent = s.sent;
      nonce = s.nonce;
      reports = s.reports;
    }

-- another place and clock, and all that a view change gathered cleared: what enter_normal, catch_up_with_view and start_view_change share
abbrev pub moved : Replica → Status → (view last : View) → Bool → Clock → Replica
moved s status view last catching clock =
    record {
      setup = s.setup;
      status = status;
      view = view;
      normal = last;
      catching = catching;
      op = s.op;
      commit = s.commit;
      takings = s.takings;
      clock = clock;
      starts = 0;
      sent = false;
      nonce = s.nonce;
      reports = no_reports;
    }

-- enter_normal, in view v
abbrev pub normal_in : Replica → View → Replica
normal_in s v = moved s Normal v v false (reset_of s.clock).clock

-- catch_up_with_view
abbrev pub catching_up_in : Replica → View → Replica
catching_up_in s v = moved s ViewChange v s.normal true (restart_of s.clock).clock

-- start_view_change: attempts rise only from ViewChange
abbrev pub changing_to : Replica → View → Replica
changing_to s v = moved s ViewChange v s.normal false (start_of (is_changing s.status) s.clock).clock

-- other votes: who asked for the view, and whether our DoViewChange went out
abbrev pub with_votes : Replica → ℕ → Bool → Replica
with_votes s starts sent =
    record {
      setup = s.setup;
      status = s.status;
      view = s.view;
      normal = s.normal;
      catching = s.catching;
      op = s.op;
      commit = s.commit;
      takings = s.takings;
      clock = s.clock;
      starts = starts;
      sent = sent;
      nonce = s.nonce;
      reports = s.reports;
    }

-- start_view_change_from.insert, but for the own id
abbrev pub with_start : Replica → ℕ → Replica
with_start s r = with_votes s (with_another s.starts s.setup.id r) s.sent

-- do_view_change_sent
abbrev pub with_sent : Replica → Replica
with_sent s = with_votes s s.starts true

-- other reports
abbrev pub with_reports : Replica → Reports → Replica
with_reports s t =
    record {
      setup = s.setup;
      status = s.status;
      view = s.view;
      normal = s.normal;
      catching = s.catching;
      op = s.op;
      commit = s.commit;
      takings = s.takings;
      clock = s.clock;
      starts = s.starts;
      sent = s.sent;
      nonce = s.nonce;
      reports = t;
    }

-- a replica just created
abbrev pub new_in : Setup → Status → View → ℕ → Replica
new_in u status v x =
    record {
      setup = u;
      status = status;
      view = v;
      normal = v;
      catching = false;
      op = record { 0 = 0 };
      commit = record { 0 = 0 };
      takings = 0;
      clock = fresh_clock;
      starts = 0;
      sent = false;
      nonce = x;
      reports = no_reports;
    }
