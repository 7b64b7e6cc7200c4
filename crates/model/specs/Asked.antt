-- What stands behind a DoViewChange of ours: StartViewChanges of its view from n/2 other replicas. `Asked v r` is whatever says that replica r
-- asked for view v; crate `safety` puts the calls that a replica got in its place. Assumes nothing.
use Rattle.std.specs.Prelude.{ℕ, ◌/◌, ◌≤◌, ◌<◌, ◌≡◌, true, List, [], ◌∷◌}
use Rattle.config.specs.Replicas.{bit, Member, count_below}
use Rattle.config.specs.declared.Setup.{Setup}
use Rattle.frames.specs.declared.Message.{Message}
use Rattle.frames.specs.declared.Message.TheVariants.{Request, Prepare, PrepareOk, Commit, GetState, NewState, StartViewChange, DoViewChange, StartView, Recovery, RecoveryResponse}
use Rattle.model.specs.State.{State, Sent}

-- a set of others, each of whom asked for view v
pub record OthersAsked (u : Setup) (Asked : (view r : ℕ) → Type 0) (v s : ℕ) : Type 0 where
  -- our own id isn't in it
  pub own_out : bit s u.id ≡ 0
  pub asked : (r : ℕ) → r < u.n → Member r s → Asked v r

-- n/2 others, or more, asked for view v
pub record HalfAsked (u : Setup) (Asked : (view r : ℕ) → Type 0) (v : ℕ) : Type 0 where
  pub ids : ℕ
  pub others : OthersAsked u Asked v ids
  pub half : u.n / 2 ≤ count_below u.n ids

-- the votes of a state: those in the set asked for its view, and where our DoViewChange went out they are n/2 or more
pub record Voted (u : Setup) (Asked : (view r : ℕ) → Type 0) (m : State) : Type 0 where
  pub others : OthersAsked u Asked m.place.view m.votes.starts
  pub half : m.votes.sent ≡ true → u.n / 2 ≤ count_below u.n m.votes.starts

module _ (u : Setup) (Asked : (view r : ℕ) → Type 0) where
  -- what a message needs to be sent: a DoViewChange the n/2 others, any other message nothing
  abbrev pub Backed : Message → Type 0
  Backed (Request e) = Unit
  Backed (Prepare v o c e) = Unit
  Backed (PrepareOk v o r) = Unit
  Backed (Commit v c) = Unit
  Backed (GetState r v o) = Unit
  Backed (NewState v a z c) = Unit
  Backed (StartViewChange v r) = Unit
  Backed (DoViewChange v r l o c) = HalfAsked u Asked v.0
  Backed (StartView v o c) = Unit
  Backed (Recovery r x v) = Unit
  Backed (RecoveryResponse v x r t) = Unit

  -- each message that a call sends
  abbrev pub AllBacked : List Sent → Type 0
  AllBacked [] = Unit
  AllBacked (x ∷ xs) = Backed x.message × AllBacked xs
