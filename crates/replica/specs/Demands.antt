-- Demands 1 and 3 of the outside calls, over any chain of them that are linked by their promises alone. Assumes nothing.
use Rattle.std.specs.Prelude.{◌≡◌, List, ℕ, ◌+◌, Err, Result, Ok}
use Rattle.numbers.specs.Numbers.{Bytes}
use Rattle.entries.specs.declared.Entry.{Entry}
use Rattle.state.specs.Answers.{refusal}
use Rattle.state.specs.declared.Replica.{Replica}
use Rattle.safety.specs.Money.{sum, all_fees, all_refunds}
use Rattle.safety.specs.Demand.{Safe, Later, zeros}
use Rattle.replica.specs.Lent.{Lent, Called, called}
use Rattle.replica.specs.Meaning.{Owned, Kept, meaning_of}
use Rattle.replica.specs.Promise.{MessagePromise, IdlePromise, TakingsPromise}
use Rattle.replica.specs.Again.{AnswersIn}
use Rattle.frames.specs.declared.Refusal.{Refusal}

-- Demand 1: a call that is refused leaves the state and every lent byte as they were, and wrote nothing.
abbrev pub Untouched : Replica → Lent → Called → Type 0
Untouched s x d = (k : Refusal) → d.answer.outcome ≡ Err k → d ≡ called (refusal k s) x

-- memory handed back as it was left; the two areas may be others
pub record HandedBack (x y : Lent) : Type 0 where
  pub runs : y.core.runs ≡ x.core.runs
  pub acks : y.core.acks ≡ x.core.acks
  pub stored : y.core.stored ≡ x.core.stored
  pub table : y.table ≡ x.table

-- one call: any frame, or a tick
pub data Link (s : Replica) (x : Lent) (d : Called) : Type 0 where
  message : (frame : List ℕ) → Bytes frame → Owned x → MessagePromise s frame x d → Link s x d
  tick : Owned x → IdlePromise s x d → Link s x d

-- any number of calls: from state s and memory x, which are its last two words, to state s' and memory x'
pub data Chain (s' : Replica) (x' : Lent) : Replica → Lent → Type 0 where
  none : Chain s' x' s' x'
  more :
      (s : Replica) (x : Lent) (d : Called) (y : Lent) → Link s x d → HandedBack d.lent y → Chain s' x' d.answer.state y
      → Chain s' x' s x

-- The takings that are answered: the full addition of the totals in memory, which is fees taken less refunds paid over the applied entries.
pub record FullAddition (s : Replica) (x : Lent) (applied : List Entry) (r : Result ℕ Refusal) : Type 0 where
  pub cents : ℕ
  pub answered : r ≡ Ok cents
  pub added : cents ≡ sum (meaning_of s x applied).book.totals
  pub balanced : cents + all_refunds (zeros s.setup) applied ≡ all_fees (zeros s.setup) applied

-- Demand 3 after a chain, from what state s and memory x mean with the entries that were applied: what they mean is safe, and later; who then asks for the
-- takings is answered the full addition, and who asks again for a client's latest request, once it is applied, gets its reply.
pub record GoesOn (s : Replica) (x : Lent) (applied : List Entry) (s' : Replica) (x' : Lent) : Type 0 where
  pub applied' : List Entry
  pub kept : Kept s' x' applied'
  pub setup : s'.setup ≡ s.setup
  pub safe : Safe s.setup (meaning_of s' x' applied')
  pub later : Later (meaning_of s x applied) (meaning_of s' x' applied')
  pub takings : (r : Result ℕ Refusal) → TakingsPromise s' r → FullAddition s' x' applied' r
  pub again : AnswersIn s' x' applied'
