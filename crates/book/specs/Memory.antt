-- The memory that a replica is lent, but for the client table, as lists of bytes. Assumes nothing.
use Rattle.std.specs.Prelude.{List, ℕ}

-- the two runs that a commit changes
pub record Money : Type 0 where
  pub results : List ℕ
  pub totals : List ℕ

abbrev pub money : List ℕ → List ℕ → Money
money rs ts = record { results = rs; totals = ts }

-- the lent runs of log, results and totals
pub record Runs : Type 0 where
  pub log : List ℕ
  pub money : Money

abbrev pub runs : (log results totals : List ℕ) → Runs
runs log results totals = record { log = log; money = money results totals }

-- the lent runs and the two areas
pub record Memory : Type 0 where
  pub runs : Runs
  pub acks : List ℕ
  pub stored : List ℕ
  pub out : List ℕ
  pub reps : List ℕ

abbrev pub memory : (log results totals acks stored out reps : List ℕ) → Memory
memory log results totals acks stored out reps =
    record { runs = runs log results totals; acks = acks; stored = stored; out = out; reps = reps }
