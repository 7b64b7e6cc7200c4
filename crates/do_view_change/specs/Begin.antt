-- The end of record_do_view_change, after install_log, on the state by value and the bytes of the lent runs: commits up to the greatest commit
-- number with a reply to each, enter_normal, acks anew, StartView to all others. Assumes nothing.
use Rattle.std.specs.Prelude.{Bool, true, List, [], ◌++◌, ℕ, ◌+◌, ◌-◌, ◌*◌, take, replicate}
use Rattle.numbers.specs.Words.{when◌then◌else◌}
use Rattle.numbers.specs.Numbers.{over}
use Rattle.numbers.specs.declared.Op.{Op}
use Rattle.entries.specs.Places.{ack_place}
use Rattle.config.specs.Replicas.{with_member}
use Rattle.frames.specs.declared.Message.TheVariants.{StartView}
use Rattle.writers.specs.Writers.{to_others}
use Rattle.book.specs.Runs.{money_committed, replies}
use Rattle.book.specs.Memory.{Money}
use Rattle.state.specs.State.{with_log, normal_in}
use Rattle.state.specs.Answers.{completed}
use Rattle.state.specs.declared.Returned.{Returned}
use Rattle.state.specs.declared.Replica.{Replica}
use Rattle.steps.specs.Steps.{committed_to}
use Rattle.view_change.specs.StartViewChange.{calls_length, calls_of}
use Rattle.view_change.specs.StartView.{start_view_length}

-- what goes out first: StartViewChange to all others, of a call that asks for the view
unfoldable pub calls_first : Bool → Replica → List ℕ
calls_first first t = when first then calls_of t t.view else []

unfoldable pub first_length : Bool → Replica → ℕ
first_length first t = when first then calls_length t else 0

-- StartView to all others, with our log
abbrev pub start_views_length : Replica → ℕ
start_views_length s = (s.setup.n - 1) * start_view_length s

abbrev pub start_views_of : Replica → List ℕ → List ℕ
start_views_of s log = to_others s.setup.n s.setup.id (StartView s.view s.op s.commit) (take (32 * s.op.0) log)

-- acks of a view that begins: our own for each op that isn't money_committed, none for the others
unfoldable pub own_acks : Replica → List ℕ
own_acks s =
    replicate (ack_place s.commit.0) 0
    ++ replicate (s.op.0 - s.commit.0) (with_member 0 s.setup.id)
    ++ replicate (s.setup.room - ack_place s.op.0) 0

-- Normal in its view, with a log of o entries
abbrev pub entered : Replica → Op → Replica
entered t o = with_log (normal_in t t.view) o t.commit

-- how many ops are money_committed on the way to commit number g
abbrev pub owed : Replica → Op → ℕ
owed t g = g.0 - t.commit.0

-- what it leaves: the answer, results and totals, acks, and the two areas
pub record Begun : Type 0 where
  pub answer : Returned
  pub money : Money
  pub acks : List ℕ
  pub out : List ℕ
  pub reps : List ℕ

abbrev pub begun : Returned → Money → (acks out reps : List ℕ) → Begun
begun a x acks out reps = record { answer = a; money = x; acks = acks; out = out; reps = reps }

-- from state t, with the installed log of o entries; u is the state after it
unfoldable pub begun_in : (t u : Replica) (g : Op) (first : Bool) (log : List ℕ) → Money → (acks out reps : List ℕ) → Begun
begun_in t u g first log x acks out reps =
    begun
    (completed u (first_length first t + start_views_length u) (36 * owed t g) true)
    x
    (over (own_acks u) acks)
    (over (calls_first first t ++ start_views_of u log) out)
    (over (replies t.view log x.results t.commit.0 (owed t g)) reps)

unfoldable pub begin_step : (t : Replica) (o g : Op) (first : Bool) (log : List ℕ) → Money → (acks out reps : List ℕ) → Begun
begin_step t o g first log x acks out reps =
    begun_in t (committed_to (entered t o) g (record { log = log; money = x })) g first log
    (money_committed t.setup.members log t.commit.0 (owed t g) x)
    acks out reps
