-- Demands 1 and 3 of the outside calls over row structs, over any chain of them that are linked by their promises alone. Assumes nothing.
use Rattle.std.specs.Prelude.{◌≡◌, ℕ, List, Err}
use Rattle.numbers.specs.Numbers.{Bytes}
use Rattle.entries.specs.declared.Entry.{Entry}
use Rattle.frames.specs.declared.Refusal.{Refusal}
use Rattle.state.specs.Answers.{refusal}
use Rattle.state.specs.declared.Replica.{Replica}
use Rattle.replica.specs.Meaning.{Owned}
use Rattle.replica.specs.Demands.{GoesOn}
use Rattle.replica_structs.specs.Calls.{LentRows, CalledRows, called_rows}
use Rattle.replica_structs.specs.Promise.{in_bytes, RowsOk, MessageRowsPromise, IdleRowsPromise}

-- Demand 1: a call that is refused leaves the state, every lent byte and every row as they were, and wrote nothing: any rows, not only those that calls produced.
abbrev pub UntouchedRows : Replica → LentRows → CalledRows → Type 0
UntouchedRows s x d = (k : Refusal) → d.answer.outcome ≡ Err k → d ≡ called_rows (refusal k s) x

-- memory handed back as it was left; the two areas may be others
pub record RowsHandedBack (x y : LentRows) : Type 0 where
  pub runs : y.core.runs ≡ x.core.runs
  pub acks : y.core.acks ≡ x.core.acks
  pub stored : y.core.stored ≡ x.core.stored
  pub table : y.table ≡ x.table

-- one call: any frame, or a tick
pub data RowsLink (s : Replica) (x : LentRows) (d : CalledRows) : Type 0 where
  message : (frame : List ℕ) → Bytes frame → Owned (in_bytes x) → MessageRowsPromise s frame x d → RowsLink s x d
  tick : Owned (in_bytes x) → IdleRowsPromise s x d → RowsLink s x d

-- any number of calls: from state s and memory x, which are its last two words, to state s' and memory x'
pub data RowsChain (s' : Replica) (x' : LentRows) : Replica → LentRows → Type 0 where
  none : RowsChain s' x' s' x'
  more :
      (s : Replica) (x : LentRows) (d : CalledRows) (y : LentRows) → RowsLink s x d → RowsHandedBack d.lent y
      → RowsChain s' x' d.answer.state y → RowsChain s' x' s x

-- Demand 3 after a chain: the rows are such as calls leave, and with each row as its 25 bytes it goes on as the calls over the byte table do.
pub record RowsGoOn (s : Replica) (x : LentRows) (applied : List Entry) (s' : Replica) (x' : LentRows) : Type 0 where
  pub ok : RowsOk x'.table
  pub goes : GoesOn s (in_bytes x) applied s' (in_bytes x')
