-- What stands behind a DoViewChange at the C boundary, over any chain of calls that are linked by their promises alone. Assumes nothing.
use Rattle.std.specs.Prelude.{◌≡◌, List, [], ◌∷◌, ◌++◌, ℕ, length}
use Rattle.numbers.specs.Numbers.{over}
use Rattle.entries.specs.declared.Entry.{Entry}
use Rattle.config.specs.declared.Setup.{Setup}
use Rattle.state_bytes.specs.Layout.{state_of}
use Rattle.model.specs.Sending.{messages_out}
use Rattle.model.specs.Asked.{AllBacked}
use Rattle.safety.specs.Demand.{Call}
use Rattle.safety.specs.Earned.{AskedIn}
use Rattle.replica.specs.Lent.{Lent}
use Rattle.replica.specs.Meaning.{Kept}
use Rattle.replica.specs.Backed.{framed_in, ticked_in, said_by}
use Rattle.whitherhaul.specs.Replicas.{Ran}
use Rattle.whitherhaul.specs.Demands.{RunLink, RunChain}
use Rattle.whitherhaul.specs.Demands.RunLink.{message, tick}
use Rattle.whitherhaul.specs.Demands.RunChain.{none, more}

-- which call a link is
abbrev pub run_call_by : (state : List ℕ) (x : Lent) (d : Ran) → RunLink state x d → Call
run_call_by state x d (message f b o p) = framed_in x f
run_call_by state x d (tick o p) = ticked_in x

-- the calls of a chain, one after the other
abbrev pub run_calls_in : (state' : List ℕ) (x' : Lent) (state : List ℕ) (x : Lent) → RunChain state' x' state x → List Call
run_calls_in state' x' state x none = []
run_calls_in state' x' state x (more _ _ d y l h c) = run_call_by state x d l ∷ run_calls_in state' x' d.state y c

-- What a call c wrote after the calls cs: the model's messages over the front of the area, their bytes counted first, and each DoViewChange among
-- them has n/2 others behind it who asked for its view in cs or by c.
pub record RunWroteBacked (u : Setup) (cs : List Call) (state : List ℕ) (x : Lent) (c : Call) (d : Ran) : Type 0 where
  pub applied : List Entry
  pub kept : Kept (state_of state) x applied
  pub replies : ℕ
  pub counts : d.counts ≡ length (messages_out (said_by (state_of state) x applied c)) ∷ replies ∷ []
  pub out : d.lent.core.out ≡ over (messages_out (said_by (state_of state) x applied c)) x.core.out
  pub backed : AllBacked u (AskedIn u (cs ++ c ∷ [])) (said_by (state_of state) x applied c)
