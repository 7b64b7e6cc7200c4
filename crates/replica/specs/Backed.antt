-- What stands behind a DoViewChange in the area that was lent, over any chain of outside calls that are linked by their promises alone. Assumes nothing.
use Rattle.std.specs.Prelude.{◌≡◌, List, [], ◌∷◌, ◌++◌, ℕ, length}
use Rattle.numbers.specs.Numbers.{over}
use Rattle.entries.specs.declared.Entry.{Entry}
use Rattle.config.specs.Replicas.{bit}
use Rattle.config.specs.declared.Setup.{Setup}
use Rattle.state.specs.declared.Replica.{Replica}
use Rattle.model.specs.State.{Sent}
use Rattle.model.specs.Sending.{messages_out}
use Rattle.model.specs.Asked.{AllBacked}
use Rattle.safety.specs.Demand.{Call, answer}
use Rattle.safety.specs.Demand.Call.{frame, tick}
use Rattle.safety.specs.Earned.{AskedIn, sent_by}
use Rattle.replica.specs.Lent.{Lent, Called}
use Rattle.replica.specs.Meaning.{Kept, meaning_of}
use Rattle.replica.specs.Demands.{Link, Chain}
use Rattle.replica.specs.Demands.Link.{message, tick as idled}
use Rattle.replica.specs.Demands.Chain.{none, more}
use Rattle.state.specs.Answers.{messages_written}

-- a frame, or a tick, with the sizes of the areas that are lent with it
abbrev pub framed_in : Lent → List ℕ → Call
framed_in x f = frame f (length x.core.out) (length x.core.reps)

abbrev pub ticked_in : Lent → Call
ticked_in x = tick (length x.core.out) (length x.core.reps)

-- which call a link is
abbrev pub call_by : (s : Replica) (x : Lent) (d : Called) → Link s x d → Call
call_by s x d (message f b o p) = framed_in x f
call_by s x d (idled o p) = ticked_in x

-- the calls of a chain, one after the other
abbrev pub calls_in : (s' : Replica) (x' : Lent) (s : Replica) (x : Lent) → Chain s' x' s x → List Call
calls_in s' x' s x none = []
calls_in s' x' s x (more _ _ d y l h c) = call_by s x d l ∷ calls_in s' x' d.answer.state y c

-- the messages that the model has a call send, from what state and memory mean with the entries that were applied
abbrev pub said_by : Replica → Lent → (applied : List Entry) → Call → List Sent
said_by s x applied c = sent_by (answer s.setup (meaning_of s x applied) c)

-- What a call c wrote after the calls cs: the model's messages over the front of the area, and each DoViewChange among them has n/2 others behind it
-- who asked for its view in cs or by c.
pub record WroteBacked (u : Setup) (cs : List Call) (s : Replica) (x : Lent) (c : Call) (d : Called) : Type 0 where
  pub applied : List Entry
  pub kept : Kept s x applied
  pub messages : messages_written d.answer ≡ length (messages_out (said_by s x applied c))
  pub out : d.lent.core.out ≡ over (messages_out (said_by s x applied c)) x.core.out
  pub backed : AllBacked u (AskedIn u (cs ++ c ∷ [])) (said_by s x applied c)

-- our own id isn't in the set of those who asked for our view
abbrev pub OwnOut : Replica → Type 0
OwnOut s = bit s.starts s.setup.id ≡ 0
