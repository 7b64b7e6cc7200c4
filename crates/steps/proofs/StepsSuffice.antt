-- The steps that the handlers share aren't refused for want of room in areas of `out_length` and `reps_length` bytes. Assumes nothing.
use mathlib.Core.Path.{◌≡◌}
use mathlib.Core.Bool.{Bool, true}
use mathlib.Core.List.{List}
use Prim.Native.Nat.{ℕ}
use native.Mathlib.Omega.{arith}
use lib.ListN.{length}
use Rattle.numbers.specs.declared.View.{View}
use Rattle.numbers.specs.declared.Op.{Op}
use Rattle.numbers.proofs.WordLaws.{split}
use Rattle.config.specs.Setup.{setup_ok}
use Rattle.config.specs.declared.Setup.{Setup}
use Rattle.state.specs.declared.Replica.{Replica}
use Rattle.steps.specs.Steps.{Spoke, Left, asked_for_state, transferred, deferred, committed_and_acked}
use Rattle.steps.specs.declared.Accept.{Accept}
use Rattle.steps.specs.declared.Accept.TheVariants.{Ignore, Hear, Join, Rejoin, Take}
use Rattle.steps.proofs.AreaLaws.{Answers, one-fits, done, no_room}
use Rattle.book.specs.Memory.{Runs}
use Rattle.state.specs.Answers.{code_of}

-- `room` is the length of the area for replies
module _ (u : Setup) (ok : setup_ok u ≡ true) (out : List ℕ) (room : ℕ) where
  -- ---- messages alone

  abbrev pub Spoken : Spoke → Type 0
  Spoken d = Answers u (length out) room (code_of d.answer)

  pub asked-suffices : (s t : Replica) (at : Op) → Spoken (asked_for_state s t at out)
  unfolding asked_for_state
  asked-suffices s t at = split Spoken _ _ _ (no_room 16 (one-fits u ok 16 (omega arith))) (λ _. done)

  pub transferred-suffices : (s : Replica) → Spoken (transferred s out)
  unfolding transferred
  transferred-suffices s = asked-suffices s _ _

  pub deferred-suffices : (a : Accept) (s : Replica) (v : View) → Spoken (deferred a s v out)
  unfolding deferred
  deferred-suffices Ignore s v = done
  deferred-suffices Hear s v = done
  deferred-suffices Join s v = asked-suffices s _ _
  deferred-suffices Rejoin s v = asked-suffices s _ _
  deferred-suffices Take s v = done

  -- ---- PrepareOk

  abbrev pub LeftBy : Left → Type 0
  LeftBy d = Answers u (length out) room (code_of d.answer)

  pub acked-suffices : (s t : Replica) (k : Op) (installed : Bool) (x : Runs) → LeftBy (committed_and_acked s t k installed x out)
  unfolding committed_and_acked
  acked-suffices s t k installed x = split LeftBy _ _ _ (no_room 16 (one-fits u ok 16 (omega arith))) (λ _. done)
