-- Why a line of the Rust has no counterpart in the model: start_view_change ends with maybe_send_do_view_change, which does nothing there.
-- Assumes nothing.
use Prim.Native.Nat.{ℕ, ◌/◌, ◌≤◌}
use native.Mathlib.Omega.{arith}
use mathlib.Core.Path.{◌≡◌}
use mathlib.Core.Bool.{false}
use mathlib.Core.List.{List, []}
use Rattle.config.proofs.ReplicaLaws.{count_none}
use borrow.Author.Tests.{lt-leb}
use Rattle.numbers.specs.Words.{◌and◌}
use Rattle.numbers.proofs.WordLaws.{if-false}
use Rattle.config.specs.declared.Setup.{Setup}
use Rattle.state.specs.Statuses.{is_changing}
use Rattle.model.specs.State.{State, Sent}
use Rattle.model.specs.State.Answer.{done}
use Rattle.model.specs.ViewChange.{cleared_votes, enough, changing_to, maybe_send_do_view_change}

-- no vote is held, and n/2 is at least 1
too_few : (u : Setup) (m : State) (v : ℕ) → 3 ≤ u.n → enough u (changing_to u m v) ≡ false
unfolding enough changing_to cleared_votes is_changing ◌and◌
too_few u m v h = lt-leb (u.n / 2) _ (omega (arith, count_none u.n))

pub starts-silent : (u : Setup) (m : State) (v : ℕ) (out : List Sent) → 3 ≤ u.n
    → maybe_send_do_view_change u (changing_to u m v) out ≡ done (changing_to u m v) out []
unfolding maybe_send_do_view_change
starts-silent u m v out h = if-false _ _ _ (too_few u m v h)
