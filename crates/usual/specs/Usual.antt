-- The usual calls, by the state and the bytes of the frame alone: those that leave all of the state but status, op and commit number, takings and the clock as it was.
-- Any bytes are asked, and a usual call may still be refused. Assumes nothing.
use Rattle.std.specs.Prelude.{Bool, true, false, not, List, ℕ, ltb, leb, eqb, length}
use Rattle.numbers.specs.Words.{when◌then◌else◌}
use Rattle.numbers.specs.Numbers.{num}
use Rattle.frames.specs.Kinds.{kind_of}
use Rattle.state.specs.State.{leads}
use Rattle.state.specs.Statuses.{is_normal}
use Rattle.state.specs.declared.Replica.{Replica}

-- a Recovery that is answered: its view isn't above v
unfoldable pub is_answered : (v : ℕ) → List ℕ → Bool
is_answered v frame =
    when ltb (length frame) 20 then false else
    leb (num 4 16 frame) v

-- by its kind: a Request, a PrepareOk, a Prepare or Commit of view v, and a Recovery of no later view
unfoldable pub usual_kind : (v : ℕ) → List ℕ → Bool
usual_kind v frame =
    when eqb (kind_of frame) 1 then true else
    when eqb (kind_of frame) 2 then eqb (num 4 7 frame) v else
    when eqb (kind_of frame) 3 then true else
    when eqb (kind_of frame) 4 then eqb (num 4 7 frame) v else
    when eqb (kind_of frame) 10 then is_answered v frame else
    false

-- a frame for a Normal replica
unfoldable pub is_usual : Replica → List ℕ → Bool
is_usual s frame =
    when not (is_normal s.status) then false else
    when ltb (length frame) 11 then false else
    usual_kind s.view.0 frame

-- a tick of a Normal primary
unfoldable pub is_leading : Replica → Bool
is_leading s =
    when eqb s.setup.n 0 then false else
    when not (is_normal s.status) then false else
    leads s
