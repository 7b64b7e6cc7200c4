-- on_commit, on the state by value and the bytes of the lent runs. Assumes nothing.
use Rattle.std.specs.Prelude.{List, ℕ, ltb}
use Rattle.numbers.specs.Words.{when◌then◌else◌}
use Rattle.numbers.specs.declared.View.{View}
use Rattle.numbers.specs.declared.Op.{Op}
use Rattle.state.specs.State.{heard_by}
use Rattle.state.specs.Answers.{quiet}
use Rattle.state.specs.declared.Replica.{Replica}
use Rattle.steps.specs.Steps.{Left, left, alone, accept_of, is_take, committed_to, settled, deferred, transferred}
use Rattle.book.specs.Memory.{Runs}

-- a Commit past our log starts a state transfer; c is bounded by nothing
unfoldable pub taken_commit : Replica → Op → Runs → List ℕ → Left
taken_commit s c x out =
    when ltb s.op.0 c.0 then alone x (transferred s out) else
    left (quiet (committed_to (heard_by s) c x)) (settled (heard_by s) c x) out

-- on_commit
unfoldable pub commit_step : Replica → View → Op → Runs → List ℕ → Left
commit_step s v c x out = when is_take (accept_of s v) then taken_commit s c x out else alone x (deferred (accept_of s v) s v out)
