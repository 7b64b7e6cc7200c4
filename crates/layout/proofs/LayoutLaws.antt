-- The lent runs exist for every setup inside the sizes: the length of each is a number of bytes that fits 20 bits, and runs of these lengths are
-- there. Assumes nothing.
use Prim.Native.Nat.{◌≤◌}
use mathlib.Core.Path.{◌≡◌}
use mathlib.Core.Bool.{true}
use native.Mathlib.Omega.{arith}
use lib.ListN.{replicate, length-replicate}
use Rattle.config.specs.Setup.{setup_ok}
use Rattle.config.specs.declared.Setup.{Setup}
use Rattle.config.proofs.SetupLaws.{sized}
use Rattle.state.specs.Lengths.{log_length, results_length, acks_length, totals_length, table_length, stored_length}
use Rattle.state.proofs.LengthLaws.{stored-place-small}
use Rattle.layout.specs.Layout.{LentRuns, FixedLengths}

-- runs of zeros, each of its length
abbrev pub blank_runs : Setup → LentRuns
blank_runs u =
    record {
      log = replicate (log_length u) 0;
      results = replicate (results_length u) 0;
      totals = replicate (totals_length u) 0;
      acks = replicate (acks_length u) 0;
      stored = replicate (stored_length u) 0;
    }

pub runs-exist : (u : Setup) → FixedLengths u (blank_runs u)
runs-exist u =
    record {
      log-long = length-replicate (log_length u) 0;
      results-long = length-replicate (results_length u) 0;
      totals-long = length-replicate (totals_length u) 0;
      acks-long = length-replicate (acks_length u) 0;
      stored-long = length-replicate (stored_length u) 0;
    }

-- the greatest lengths, at n = 7, L = M = 4,096
pub record Small (u : Setup) : Type 0 where
  pub log-small : log_length u ≤ 131072
  pub results-small : results_length u ≤ 36864
  pub totals-small : totals_length u ≤ 32768
  pub acks-small : acks_length u ≤ 4096
  pub table-small : table_length u ≤ 102400
  pub stored-small : stored_length u ≤ 917504

pub lengths-small : (u : Setup) → setup_ok u ≡ true → Small u
lengths-small u ok =
    let s = sized u ok in
    record {
      log-small = omega (arith, s.room-high);
      results-small = omega (arith, s.room-high);
      totals-small = omega (arith, s.members-high);
      acks-small = omega (arith, s.room-high);
      table-small = omega (arith, s.room-high);
      stored-small = stored-place-small u.room u.n s.room-high s.seven;
    }
