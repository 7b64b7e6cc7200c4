-- A DoViewChange of ours goes out only after StartViewChanges of its view from n/2 other replicas, over the calls that demand 3 speaks of: any
-- list of outside calls, refused ones included, from a creation that was not refused. Assumes nothing.
use Rattle.std.specs.Prelude.{Ok, ℕ, ◌≡◌, ◌⊎◌, List, [], ◌∷◌, ◌++◌}
use Rattle.config.specs.declared.Setup.{Setup}
use Rattle.frames.specs.Refusals.{check_frame}
use Rattle.frames.specs.declared.Message.TheVariants.{StartViewChange}
use Rattle.model.specs.State.{view_of, State, Sent, Answer}
use Rattle.model.specs.State.Answer.{refused, done}
use Rattle.model.specs.Asked.{Voted, AllBacked}
use Rattle.safety.specs.Demand.{Call, answer, run}
use Rattle.safety.specs.Demand.Call.{frame, tick}

-- replica r asks for view v by a call: a frame that refusals 2 to 6 let pass, a StartViewChange of that view from r
abbrev pub Asks : Setup → (view r : ℕ) → Call → Type 0
Asks u v r (frame s a b) = check_frame u s ≡ Ok (StartViewChange (view_of v) r)
Asks u v r (tick a b) = ⊥

-- by one of these calls
abbrev pub AskedIn : Setup → List Call → (view r : ℕ) → Type 0
AskedIn u [] v r = ⊥
AskedIn u (c ∷ cs) v r = Asks u v r c ⊎ AskedIn u cs v r

-- the messages of an answer
unfoldable pub sent_by : Answer → List Sent
sent_by (refused k) = []
sent_by (done m out rs) = out

-- After the calls cs the set has others alone, each of whom asked for our view in them. Each DoViewChange that the next call c sends has n/2
-- others behind it who asked for its view in cs or by c.
pub record Earned (u : Setup) (m : State) (cs : List Call) (c : Call) : Type 0 where
  pub voted : Voted u (AskedIn u cs) (run u m cs)
  pub backed : AllBacked u (AskedIn u (cs ++ c ∷ [])) (sent_by (answer u (run u m cs) c))
