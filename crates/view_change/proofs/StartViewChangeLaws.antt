-- The ways out of start_view_change, on plain variables. Assumes nothing.
use mathlib.Core.Path.{◌≡◌, refl}
use mathlib.Core.Bool.{true, false}
use mathlib.Core.List.{List}
use Prim.Native.Nat.{ℕ, ◌-◌, ◌*◌, ◌≤◌, ◌<◌}
use lib.ListN.{length}
use borrow.Author.Tests.{lt-ltb, le-ltb}
use Rattle.numbers.specs.Words.{when◌then◌else◌}
use Rattle.numbers.specs.Numbers.{Wrote}
use Rattle.numbers.specs.declared.View.{View}
use Rattle.config.specs.Setup.{setup_ok}
use Rattle.frames.specs.declared.Message.TheVariants.{StartViewChange}
use Rattle.writers.specs.Writers.{size_of, length_of}
use Rattle.steps.proofs.SendLaws.{bare-asks, bare-long}
use Rattle.state.specs.State.{changing_to}
use Rattle.state.specs.Answers.{refusal, completed}
use Rattle.state.specs.declared.Returned.{Returned}
use Rattle.state.specs.declared.Replica.{Replica}
use Rattle.steps.specs.Steps.{spoke}
use Rattle.view_change.specs.StartViewChange.{calls_length, calls_of, started_change}
use Rattle.frames.specs.declared.Refusal.TheVariants.{NoRoomForMessages}

module _ (s : Replica) (v : View) (ok : setup_ok s.setup ≡ true) where
  pub calls-fit : (n area : ℕ) → calls_length s ≤ area
      → (s.setup.id < s.setup.n)
      × (((size_of (StartViewChange v s.setup.id)).entries ≤ 4096)
      × ((32 * (size_of (StartViewChange v s.setup.id)).entries ≤ n)
      × ((s.setup.n - 1) * length_of (StartViewChange v s.setup.id) ≤ area)))
  unfolding size_of length_of
  calls-fit n area h = bare-asks s.setup ok (StartViewChange v s.setup.id) n area refl h

  pub calls-long : length (calls_of s v) ≡ calls_length s
  unfolding size_of length_of
  calls-long = bare-long s.setup ok (StartViewChange v s.setup.id) refl

module _ (s t : Replica) (v : View) (out : List ℕ) where
  pub changes-short : (a : Returned) → length out < calls_length t → a ≡ refusal NoRoomForMessages s → spoke a out ≡ started_change s t v out
  unfolding started_change when◌then◌else◌
  changes-short a h p = rw (lt-ltb (length out) (calls_length t) h, p)

  pub changes : (a : Returned) (t' : Replica) (w : ℕ) (o : List ℕ) → setup_ok t.setup ≡ true → calls_length t ≤ length out → Wrote (calls_of t v) out o w
      → t' ≡ changing_to t v → a ≡ completed t' w 0 false → spoke a o ≡ started_change s t v out
  unfolding started_change when◌then◌else◌
  changes a t' w o ok h q e p = rw (le-ltb (length out) (calls_length t) h, p, q.bytes, q.count, calls-long t v ok, e)
