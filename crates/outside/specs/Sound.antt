-- Refusal 1: setup, state numbers, and the lengths of what is lent. Assumes nothing.
use Rattle.std.specs.Prelude.{Bool, false, not, ℕ, ltb, eqb, length}
use Rattle.numbers.specs.Words.{when◌then◌else◌}
use Rattle.config.specs.Setup.{setup_ok}
use Rattle.config.specs.declared.Setup.{Setup}
use Rattle.fees.specs.Takings.{most_takings}
use Rattle.frames.specs.declared.Status.TheVariants.{Normal}
use Rattle.state.specs.Statuses.{no_reports}
use Rattle.state.specs.Lengths.{log_length, results_length, acks_length, totals_length, table_length, stored_length}
use Rattle.state.specs.declared.Replica.{Replica}
use Rattle.state.specs.Sound.{gathered_ok}
use Rattle.book.specs.Memory.{Memory}
use Rattle.outside.specs.declared.Lengths.{Lengths}

-- the lengths of the lent state buffers: of the core's runs and of the client table
abbrev pub lengths_with : Memory → (table : ℕ) → Lengths
lengths_with m table =
    record {
      log = length m.runs.log;
      results = length m.runs.money.results;
      totals = length m.runs.money.totals;
      acks = length m.acks;
      stored = length m.stored;
      table = table;
    }

-- refusal 1 on them: each has its fixed length
unfoldable pub lengths_ok : Setup → Lengths → Bool
lengths_ok u l =
    when not (eqb l.log (log_length u)) then false else
    when not (eqb l.results (results_length u)) then false else
    when not (eqb l.totals (totals_length u)) then false else
    when not (eqb l.acks (acks_length u)) then false else
    when not (eqb l.stored (stored_length u)) then false else
    eqb l.table (table_length u)

-- and on a setup
unfoldable pub creatable : Setup → Lengths → Bool
creatable u l = when setup_ok u then lengths_ok u l else false

-- and on the numbers of a state: commit ≤ op number ≤ L of our log and of each stored one, takings of at most 4,096,000,000,000, and what is gathered is of
-- the cluster's replicas
unfoldable pub numbers_sound : Replica → Bool
numbers_sound s =
    when ltb s.op.0 s.commit.0 then false else
    when ltb s.setup.room s.op.0 then false else
    when ltb most_takings s.takings then false else
    gathered_ok s.setup s.starts s.reports.rows

-- refusal 1 is given exactly where this is false: setup, lengths, numbers
unfoldable pub sound : Replica → Lengths → Bool
sound s l = when creatable s.setup l then numbers_sound s else false

-- of a call that is handed the state alone: setup, numbers
unfoldable pub state_sound : Replica → Bool
state_sound s = when setup_ok s.setup then numbers_sound s else false

-- the all-zero state, which a refused creation hands back
abbrev pub no_replica : Replica
no_replica =
    record {
      setup = record { n = 0; id = 0; timeout = 0; room = 0; members = 0 };
      status = Normal;
      view = record { 0 = 0 };
      normal = record { 0 = 0 };
      catching = false;
      op = record { 0 = 0 };
      commit = record { 0 = 0 };
      takings = 0;
      clock = record { heard = false; waiting = 0; stable = 0; attempts = 0 };
      starts = 0;
      sent = false;
      nonce = 0;
      reports = no_reports;
    }
