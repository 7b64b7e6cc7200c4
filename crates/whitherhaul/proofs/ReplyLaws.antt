-- No call at the C boundary leaves anything in the area for replies but Replies with outcomes of 1 to 6, with their exact count, whatever the runs hold.
-- Assumes nothing.
use mathlib.Core.List.{List}
use Prim.Native.Nat.{ℕ}
use lib.ListN.{get_or}
use Rattle.numbers.specs.declared.View.{View}
use Rattle.numbers.proofs.WordLaws.{split}
use Rattle.config.specs.declared.Setup.{Setup}
use Rattle.steps.specs.Replying.{Replying}
use Rattle.steps.proofs.ReplyLaws.{silent}
use Rattle.state_bytes.specs.Layout.{state_of}
use Rattle.replica.specs.Lent.{Lent}
use Rattle.replica.proofs.ReplyLaws.{message-call-replies, idle-call-replies, create-call-replies, recover-call-replies}
use Rattle.whitherhaul.specs.Replicas.{Ran, message_run, idle_run, create_run, recover_run}

-- a call that is lent x; the second count is that of reply bytes
abbrev pub Answers : Lent → Ran → Type 0
Answers x d = Replying x.core.reps d.lent.core.reps (get_or d.counts 1 0)

pub message-run-replies : (state frame : List ℕ) (x : Lent) → Answers x (message_run state frame x)
unfolding message_run
message-run-replies state frame x = split (Answers x) _ _ _ (λ _. silent) (λ _. message-call-replies (state_of state) x frame)

pub idle-run-replies : (state : List ℕ) (x : Lent) → Answers x (idle_run state x)
unfolding idle_run
idle-run-replies state x = split (Answers x) _ _ _ (λ _. silent) (λ _. idle-call-replies (state_of state) x)

pub create-run-replies : (u : Setup) (state : List ℕ) (x : Lent) → Answers x (create_run u state x)
unfolding create_run
create-run-replies u state x = split (Answers x) _ _ _ (λ _. silent) (λ _. create-call-replies u x)

pub recover-run-replies : (u : Setup) (v : View) (nonce : ℕ) (state : List ℕ) (x : Lent) → Answers x (recover_run u v nonce state x)
unfolding recover_run
recover-run-replies u v nonce state x = split (Answers x) _ _ _ (λ _. silent) (λ _. recover-call-replies u x v nonce)
