-- The ways out of on_commit, on plain variables, as the code's tests and calls give them; and what on_prepare shares with it: what a sound
-- state gives the steps, and a message that is taken or not. Assumes nothing.
use mathlib.Core.Path.{◌≡◌, ap}
use mathlib.Core.Bool.{Bool, true, false}
use mathlib.Core.List.{List}
use Prim.Native.Nat.{ℕ, ◌≤◌, ◌<◌}
use native.Mathlib.Omega.{arith}
use borrow.Author.Tests.{lt-ltb, le-ltb}
use Rattle.numbers.specs.Words.{when◌then◌else◌}
use Rattle.numbers.specs.declared.View.{View}
use Rattle.numbers.specs.declared.Op.{Op}
use Rattle.config.proofs.SetupLaws.{sized}
use Rattle.state.specs.State.{heard_by}
use Rattle.state.specs.Answers.{quiet}
use Rattle.state.specs.declared.Returned.{Returned}
use Rattle.state.specs.declared.Replica.{Replica}
use Rattle.steps.specs.declared.Accept.{Accept}
use Rattle.steps.specs.Steps.{Sound, Left, spoke, left, alone, accept_of, is_take, committed_to, settled, deferred, transferred}
use Rattle.book.specs.Memory.{Runs}
use Rattle.normal.specs.Commit.{taken_commit}

-- there are replicas to ask
pub some : (s : Replica) (x : Runs) → Sound s x → 0 < s.setup.n
some s x h = omega (arith, (sized s.setup h.sized).three)

-- to hear the primary changes none of what is sound
pub sound-heard : (s u : Replica) (x : Runs) → u ≡ heard_by s → Sound s x → Sound u x
sound-heard s u x e h =
    rw e
    record {
      sized = h.sized;
      commit-le = h.commit-le;
      op_le = h.op_le;
      log-long = h.log-long;
      results-long = h.results-long;
      totals-long = h.totals-long;
    }

-- an op of our log is one of the log of the replica that has heard
pub within-log : (s u : Replica) (c : Op) → u ≡ heard_by s → c.0 ≤ s.op.0 → c.0 ≤ u.op.0
within-log s u c e h = rw e h

-- a message from the primary: k is what accept_from_primary says, b whether it is taken
module _ (s : Replica) (v : View) (x : Runs) (out : List ℕ) (k : Accept) (b : Bool) (p : k ≡ accept_of s v) (q : b ≡ is_take k)
    (y : Left) where
  pub takes : (z : Left) → b ≡ true → z ≡ y → z ≡ (when is_take (accept_of s v) then y else alone x (deferred (accept_of s v) s v out))
  unfolding when◌then◌else◌
  takes z h e = rw (← p, ← q, h, e)

  pub defers : (a : Returned) (o : List ℕ) → b ≡ false → spoke a o ≡ deferred k s v out
      → left a x o ≡ (when is_take (accept_of s v) then y else alone x (deferred (accept_of s v) s v out))
  unfolding when◌then◌else◌
  defers a o h e = rw (← p, ← q, h) (ap (alone x) e)

-- a Commit that is taken
module _ (s : Replica) (c : Op) (x : Runs) (out : List ℕ) where
  pub past-log : (a : Returned) (o : List ℕ) → s.op.0 < c.0 → spoke a o ≡ transferred s out → left a x o ≡ taken_commit s c x out
  unfolding taken_commit when◌then◌else◌
  past-log a o h e = rw (lt-ltb s.op.0 c.0 h) (ap (alone x) e)

  pub settles : (u t : Replica) (y : Runs) (a : Returned) → c.0 ≤ s.op.0 → u ≡ heard_by s → t ≡ committed_to u c x → y ≡ settled u c x
      → a ≡ quiet t → left a y out ≡ taken_commit s c x out
  unfolding taken_commit when◌then◌else◌
  settles u t y a h e p q r = rw (le-ltb s.op.0 c.0 h, r, q, p, e)
