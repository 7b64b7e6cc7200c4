-- No call at the C boundary is refused for want of room in areas of `out_length` and `reps_length` bytes, whatever the runs hold. Assumes nothing.
use mathlib.Core.List.{List}
use Prim.Native.Nat.{ℕ}
use native.Mathlib.Omega.{arith}
use lib.ListN.{length}
use Rattle.numbers.specs.declared.View.{View}
use Rattle.numbers.proofs.WordLaws.{split}
use Rattle.config.specs.declared.Setup.{Setup}
use Rattle.steps.specs.Areas.{Suffices}
use Rattle.steps.proofs.AreaLaws.{others}
use Rattle.state_bytes.specs.Layout.{state_of}
use Rattle.replica.specs.Lent.{Lent}
use Rattle.replica.proofs.SufficeLaws.{message-call-suffices, idle-call-suffices, create-call-suffices, recover-call-suffices}
use Rattle.whitherhaul.specs.Replicas.{Ran, message_run, idle_run, create_run, recover_run}

-- a call that is lent x, in a setup
abbrev pub Enough : Setup → Lent → Ran → Type 0
Enough u x d = Suffices u (length x.core.out) (length x.core.reps) d.code

-- on_message, on_idle: the setup is that of the state run
pub message-run-suffices : (state frame : List ℕ) (x : Lent) → Enough (state_of state).setup x (message_run state frame x)
unfolding message_run
message-run-suffices state frame x =
    split (Enough (state_of state).setup x) _ _ _ (λ _. others (omega arith)) (λ _. message-call-suffices (state_of state) x frame)

pub idle-run-suffices : (state : List ℕ) (x : Lent) → Enough (state_of state).setup x (idle_run state x)
unfolding idle_run
idle-run-suffices state x =
    split (Enough (state_of state).setup x) _ _ _ (λ _. others (omega arith)) (λ _. idle-call-suffices (state_of state) x)

-- new, recover
pub create-run-suffices : (u : Setup) (state : List ℕ) (x : Lent) → Enough u x (create_run u state x)
unfolding create_run
create-run-suffices u state x = split (Enough u x) _ _ _ (λ _. others (omega arith)) (λ _. create-call-suffices u x)

pub recover-run-suffices : (u : Setup) (v : View) (nonce : ℕ) (state : List ℕ) (x : Lent) → Enough u x (recover_run u v nonce state x)
unfolding recover_run
recover-run-suffices u v nonce state x =
    split (Enough u x) _ _ _ (λ _. others (omega arith)) (λ _. recover-call-suffices u x v nonce)
