-- What an owner appends to a journal while the ledger runs. Over any chain of calls from a creation that wasn't refused, refused calls included, the
-- frames appended after each of them, one after the other, are the journal of the applied entries, which demand 3 speaks of. Assumes nothing.
use Rattle.std.specs.Prelude.{◌≡◌, true, List, [], ◌++◌, ℕ, take}
use Rattle.entries.specs.declared.Entry.{Entry}
use Rattle.state.specs.declared.Replica.{Replica}
use Rattle.state_bytes.specs.Layout.{state_of}
use Rattle.safety.specs.Demand.{Safe}
use Rattle.replica.specs.Lent.{Lent, Called}
use Rattle.replica.specs.Meaning.{Kept, meaning_of}
use Rattle.replica.specs.Demands.{Chain}
use Rattle.replica.specs.Demands.Chain.{none, more}
use Rattle.whitherhaul.specs.Replicas.{Ran}
use Rattle.whitherhaul.specs.Demands.{RunChain}
use Rattle.whitherhaul.specs.Demands.RunChain.{none as no_run, more as more-runs}
use Rattle.journal.specs.Journal.{journal}
use Rattle.journal.specs.Calls.{frames_in, ops_there}

-- the frames that `append` makes of ops from + 1 to `to`, and that it isn't refused by 1, where a replica is lent x
abbrev pub frames_of : (from to : ℕ) → Lent → List ℕ
frames_of from to x = frames_in from to x.core.runs.log x.core.runs.money.results

abbrev pub ops_of : (from to : ℕ) → Lent → Type 0
ops_of from to x = ops_there from to x.core.runs.log x.core.runs.money.results ≡ true

-- after a call: the ops that it committed, out of what it left
abbrev pub journaled_by : Replica → Called → List ℕ
journaled_by s d = frames_of s.commit.0 d.answer.state.commit.0 d.lent

-- after each call of a chain, one after the other
abbrev pub journaled_in : (s' : Replica) (x' : Lent) (s : Replica) (x : Lent) → Chain s' x' s x → List ℕ
journaled_in s' x' s x none = []
journaled_in s' x' s x (more _ _ d y l h c) = journaled_by s d ++ journaled_in s' x' d.answer.state y c

-- the same at the C boundary, where the state lies in a run
abbrev pub run_journaled_by : (state : List ℕ) → Ran → List ℕ
run_journaled_by state d = frames_of (state_of state).commit.0 (state_of d.state).commit.0 d.lent

abbrev pub run_journaled_in : (state' : List ℕ) (x' : Lent) (state : List ℕ) (x : Lent) → RunChain state' x' state x → List ℕ
run_journaled_in state' x' state x no_run = []
run_journaled_in state' x' state x (more-runs _ _ d y l h c) = run_journaled_by state d ++ run_journaled_in state' x' d.state y c

-- State s and memory x, with the entries that were applied: any of the last ops, taken out of memory, complete the journal of those before them.
pub record Completes (s : Replica) (x : Lent) (applied : List Entry) (from : ℕ) : Type 0 where
  pub there : ops_of from s.commit.0 x
  pub whole :
      journal s.setup.members (take from applied) ++ frames_of from s.commit.0 x ≡ journal s.setup.members applied

-- The frames w were appended on the way from state s, with these applied entries, to state s' and memory x': behind the journal of the ones they make
-- that of the applied entries there, of which demand 3 holds.
pub record Journaled (s : Replica) (applied : List Entry) (s' : Replica) (x' : Lent) (w : List ℕ) : Type 0 where
  pub applied' : List Entry
  pub kept : Kept s' x' applied'
  pub setup : s'.setup ≡ s.setup
  pub safe : Safe s.setup (meaning_of s' x' applied')
  pub is : journal s.setup.members applied ++ w ≡ journal s.setup.members applied'

-- from a creation on: the frames w are the journal of the applied entries
pub record JournalKept (s : Replica) (x : Lent) (w : List ℕ) : Type 0 where
  pub applied : List Entry
  pub kept : Kept s x applied
  pub safe : Safe s.setup (meaning_of s x applied)
  pub is : w ≡ journal s.setup.members applied
