-- The examples of the outside calls themselves: whatever they are played on, each answer has the number, the message bytes and the reply bytes of the
-- example. Each call is known by its promise alone. Assumes nothing.
use Rattle.std.specs.Prelude.{◌≡◌, true, List, [], ◌∷◌, ℕ, length, take}
use Rattle.numbers.specs.Numbers.{Bytes}
use Rattle.state.specs.declared.Replica.{Replica}
use Rattle.outside.specs.Sound.{lengths_ok}
use Rattle.replica.specs.Lent.{Lent, Called, lengths_of}
use Rattle.replica.specs.Meaning.{Owned}
use Rattle.replica.specs.Promise.{MessagePromise, IdlePromise, CreatePromise}
use Rattle.replica.specs.Demands.{HandedBack}
use Rattle.model.specs.Examples.{Event, SeenCall, Example}
use Rattle.model.specs.Examples.Event.{idle, idle_in, gets}
use Rattle.state.specs.Answers.{code_of, messages_written, replies_written}

-- what a caller hears of a call
pub record HeardBack : Type 0 where
  pub number : ℕ
  pub messages : List ℕ
  pub replies : List ℕ

-- the number, and the bytes that are counted in the two areas
unfoldable pub heard : Called → HeardBack
heard d =
    record {
      number = code_of d.answer;
      messages = take (messages_written d.answer) d.lent.core.out;
      replies = take (replies_written d.answer) d.lent.core.reps;
    }

-- of an example
unfoldable pub heard_in : SeenCall → HeardBack
heard_in w = record { number = w.number; messages = w.messages; replies = w.replies }

-- of each
unfoldable pub each : {A : Type 0} → (A → HeardBack) → List A → List HeardBack
each f [] = []
each f (a ∷ rest) = f a ∷ each f rest

-- the two areas are as long as the example says
pub record Areas (x : Lent) (a b : ℕ) : Type 0 where
  pub messages : length x.core.out ≡ a
  pub replies : length x.core.reps ≡ b

-- the public call of an event
abbrev pub CallOf : Event → Replica → Lent → Called → Type 0
CallOf idle s x d = IdlePromise s x d × Areas x 65536 65536
CallOf (idle_in a) s x d = IdlePromise s x d × Areas x a 0
CallOf (gets f) s x d = MessagePromise s f x d × (Bytes f × Areas x 65536 65536)

-- the calls of an example one after the other, with memory handed back as it was left
pub data Played : Replica → Lent → List Event → List Called → Type 0 where
  none : (s : Replica) (x : Lent) → Played s x [] []
  more :
      (s : Replica) (x : Lent) (e : Event) (es : List Event) (d : Called) (ds : List Called) (y : Lent) → Owned x → CallOf e s x d
      → HandedBack d.lent y → Played d.answer.state y es ds → Played s x (e ∷ es) (d ∷ ds)

-- An example that begins with a first creation, played: what is heard is what it wants.
pub record PlayedSo (e : Example) : Type 0 where
  pub so :
      (x : Lent) (d : Called) (y : Lent) (ds : List Called) → CreatePromise e.setup x d → lengths_ok e.setup (lengths_of x) ≡ true
      → HandedBack d.lent y → Played d.answer.state y e.calls ds → each heard (d ∷ ds) ≡ each heard_in e.want

-- a list of examples, played
abbrev pub AllPlayed : List Example → Type 0
AllPlayed [] = Unit
AllPlayed (e ∷ es) = PlayedSo e × AllPlayed es
