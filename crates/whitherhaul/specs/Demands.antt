-- Demands 1 and 3 at the C boundary, where the state lies in a byte run: over any chain of calls that are linked by their promises alone. Assumes nothing.
use Rattle.std.specs.Prelude.{◌≡◌, true, List, [], ◌∷◌, ℕ, Ok}
use Rattle.numbers.specs.Numbers.{Bytes}
use Rattle.entries.specs.declared.Entry.{Entry}
use Rattle.replica.specs.Lent.{Lent}
use Rattle.replica.specs.Meaning.{Owned}
use Rattle.replica.specs.Demands.{HandedBack, FullAddition, GoesOn}
use Rattle.state_bytes.specs.Layout.{state_of, state_ok}
use Rattle.whitherhaul.specs.Replicas.{Ran, ran, SumTold, MessageRan, IdleRan, TakingsRan}
use Rattle.whitherhaul.specs.Again.{RunAnswersIn}

-- Demand 1: a call that is refused leaves the state run and every lent byte as they were, with counts of 0.
abbrev pub UntouchedRun : (state : List ℕ) → Lent → Ran → Type 0
UntouchedRun state x d = (d.code ≡ 0 → ⊥) → d ≡ ran d.code (0 ∷ 0 ∷ []) state x

-- one call: any frame, or a tick
pub data RunLink (state : List ℕ) (x : Lent) (d : Ran) : Type 0 where
  message : (frame : List ℕ) → Bytes frame → Owned x → MessageRan state frame x d → RunLink state x d
  tick : Owned x → IdleRan state x d → RunLink state x d

-- any number of calls: from a state run and memory x, which are its last two words, to state run state' and memory x'
pub data RunChain (state' : List ℕ) (x' : Lent) : List ℕ → Lent → Type 0 where
  none : RunChain state' x' state' x'
  more :
      (state : List ℕ) (x : Lent) (d : Ran) (y : Lent) → RunLink state x d → HandedBack d.lent y → RunChain state' x' d.state y
      → RunChain state' x' state x

-- Demand 3 after a chain: the run holds a state, and from what the first run holds to what the last one holds it goes on as the replica's does; who then asks
-- for the takings is answered the full addition, and who asks again for a client's latest request, once it is applied, gets its reply.
pub record RunGoesOn (state : List ℕ) (x : Lent) (applied : List Entry) (state' : List ℕ) (x' : Lent) : Type 0 where
  pub ok : state_ok state' ≡ true
  pub goes : GoesOn (state_of state) x applied (state_of state') x'
  pub takings : (r : SumTold) → TakingsRan state' r → (r.code ≡ 0) × FullAddition (state_of state') x' goes.applied' (Ok r.cents)
  pub again : RunAnswersIn state' x' goes.applied'
