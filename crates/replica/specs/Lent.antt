-- Everything that an outside call is lent, and what it leaves. Assumes nothing.
use Rattle.std.specs.Prelude.{List, ℕ, length}
use Rattle.state.specs.declared.Returned.{Returned}
use Rattle.book.specs.Memory.{Memory, memory}
use Rattle.outside.specs.Sound.{lengths_with}
use Rattle.outside.specs.declared.Lengths.{Lengths}

-- everything that a call is lent: the runs of the core, and the client table
pub record Lent : Type 0 where
  pub core : Memory
  pub table : List ℕ

abbrev pub lent : (log results totals acks stored table out reps : List ℕ) → Lent
lent log results totals acks stored table out reps =
    record { core = memory log results totals acks stored out reps; table = table }

-- what a call leaves
pub record Called : Type 0 where
  pub answer : Returned
  pub lent : Lent

abbrev pub called : Returned → Lent → Called
called a x = record { answer = a; lent = x }

-- a call that answers a, on this and leaving that, keeps a promise
abbrev pub Keeps : (promise : Lent → Called → Type 0) → Returned → (before after : Lent) → Type 0
Keeps promise a before after = promise before (called a after)

-- the lengths of the lent state buffers
abbrev pub lengths_of : Lent → Lengths
lengths_of x = lengths_with x.core (length x.table)
