-- The ways out of send_recovery and on_recovery, on plain variables, as the code's tests and calls give them. Assumes nothing.
use Rattle.std.specs.Prelude.{Some, None}
use mathlib.Core.Path.{◌≡◌, refl}
use mathlib.Core.Bool.{true, false, not}
use mathlib.Core.List.{List, []}
use Prim.Native.Nat.{ℕ, ◌+◌, ◌-◌, ◌*◌, ◌≤◌, ◌<◌}
use native.Mathlib.Omega.{arith}
use lib.ListN.{length, take}
use lib.Seq.{length-take-le}
use borrow.Author.Tests.{lt-ltb, le-ltb}
use Rattle.numbers.specs.Words.{when◌then◌else◌}
use Rattle.numbers.specs.Numbers.{Wrote}
use Rattle.numbers.specs.declared.View.{View}
use Rattle.config.specs.Setup.{setup_ok}
use Rattle.config.proofs.SetupLaws.{sized}
use Rattle.frames.specs.declared.Message.TheVariants.{Recovery, RecoveryResponse}
use Rattle.writers.specs.Writers.{encode, size_of, state_size, length_of}
use Rattle.writers.proofs.WriterLaws.{encode-length}
use Rattle.state.specs.State.{leads}
use Rattle.state.specs.Statuses.{is_normal}
use Rattle.state.specs.Answers.{refusal, completed, quiet}
use Rattle.state.specs.declared.Returned.{Returned}
use Rattle.state.specs.declared.Replica.{Replica}
use Rattle.steps.specs.Steps.{Spoke, spoke}
use Rattle.steps.proofs.SendLaws.{bare-asks, bare-long}
use Rattle.view_change.specs.StartView.{LogHeld}
use Rattle.view_change.specs.StartViewChange.{started_change}
use Rattle.recovery.specs.Recovery.{recoveries_length, recoveries_of, recovering_tick, full_length, full_answer, bare_answer, recovery_step}
use Rattle.frames.specs.declared.Refusal.TheVariants.{NoRoomForMessages}
use Rattle.frames.specs.Messages.{progress}

-- ---- send_recovery

module _ (s : Replica) (out : List ℕ) where
  pub ticks-short : (a : Returned) → length out < recoveries_length s → a ≡ refusal NoRoomForMessages s → spoke a out ≡ recovering_tick s out
  unfolding recovering_tick when◌then◌else◌
  ticks-short a h p = rw (lt-ltb (length out) (recoveries_length s) h, p)

  module _ (ok : setup_ok s.setup ≡ true) (h : recoveries_length s ≤ length out) where
    pub recoveries-fit : (n : ℕ)
        → (s.setup.id < s.setup.n)
        × (((size_of (Recovery s.setup.id s.nonce s.view)).entries ≤ 4096)
        × ((32 * (size_of (Recovery s.setup.id s.nonce s.view)).entries ≤ n)
        × ((s.setup.n - 1) * length_of (Recovery s.setup.id s.nonce s.view) ≤ length out)))
    unfolding size_of length_of
    recoveries-fit n = bare-asks s.setup ok (Recovery s.setup.id s.nonce s.view) n (length out) refl h

    recoveries-long : length (recoveries_of s) ≡ recoveries_length s
    unfolding size_of length_of
    recoveries-long = bare-long s.setup ok (Recovery s.setup.id s.nonce s.view) refl

    pub ticks : (a : Returned) (w : ℕ) (o : List ℕ) → Wrote (recoveries_of s) out o w → a ≡ completed s w 0 false
        → spoke a o ≡ recovering_tick s out
    unfolding recovering_tick when◌then◌else◌
    ticks a w o q p = rw (le-ltb (length out) (recoveries_length s) h, p, q.bytes, q.count, recoveries-long)

-- ---- the answers to a Recovery

module _ (s : Replica) (r x : ℕ) (log out : List ℕ) where
  pub full-short : (a : Returned) → length out < full_length s → a ≡ refusal NoRoomForMessages s → spoke a out ≡ full_answer s r x log out
  unfolding full_answer when◌then◌else◌
  full-short a h p = rw (lt-ltb (length out) (full_length s) h, p)

  module _ (h : LogHeld s (length log)) (l : full_length s ≤ length out) where
    pub full-fits : (s.op.0 ≤ 4096) × ((32 * s.op.0 ≤ length log) × (29 + 32 * s.op.0 ≤ length out))
    full-fits =
        let z = sized s.setup h.sized in
        (omega (arith, h.op_le, z.room-high), (omega (arith, h.op_le, h.log-long), l))

    full-long : length (encode r (RecoveryResponse s.view x s.setup.id (Some (progress s.op s.commit))) (take (32 * s.op.0) log))
        ≡ full_length s
    unfolding size_of state_size length_of
    full-long =
        encode-length r (RecoveryResponse s.view x s.setup.id (Some (progress s.op s.commit))) (take (32 * s.op.0) log)
        (length-take-le (32 * s.op.0) log (omega (arith, h.op_le, h.log-long)))

    pub answers-full : (a : Returned) (w : ℕ) (o : List ℕ)
        → Wrote (encode r (RecoveryResponse s.view x s.setup.id (Some (progress s.op s.commit))) (take (32 * s.op.0) log)) out o w
        → a ≡ completed s w 0 false → spoke a o ≡ full_answer s r x log out
    unfolding full_answer when◌then◌else◌
    answers-full a w o q p = rw (le-ltb (length out) (full_length s) l, p, q.bytes, q.count, full-long)

module _ (s : Replica) (r x : ℕ) (out : List ℕ) where
  pub bare-short : (a : Returned) → length out < 21 → a ≡ refusal NoRoomForMessages s → spoke a out ≡ bare_answer s r x out
  unfolding bare_answer when◌then◌else◌
  bare-short a h p = rw (lt-ltb (length out) 21 h, p)

  bare-answer-long : length (encode r (RecoveryResponse s.view x s.setup.id None) []) ≡ 21
  unfolding size_of state_size length_of
  bare-answer-long = encode-length r (RecoveryResponse s.view x s.setup.id None) [] refl

  pub answers-bare : (a : Returned) (w : ℕ) (o : List ℕ) → 21 ≤ length out
      → Wrote (encode r (RecoveryResponse s.view x s.setup.id None) []) out o w → a ≡ completed s w 0 false
      → spoke a o ≡ bare_answer s r x out
  unfolding bare_answer when◌then◌else◌
  answers-bare a w o h q p = rw (le-ltb (length out) 21 h, p, q.bytes, q.count, bare-answer-long)

-- ---- on_recovery

module _ (s : Replica) (r x : ℕ) (v : View) (log out : List ℕ) where
  pub starts-change : (d : Spoke) → s.view.0 < v.0 → d ≡ started_change s s v out → d ≡ recovery_step s r x v log out
  unfolding recovery_step when◌then◌else◌
  starts-change d h p = rw (lt-ltb s.view.0 v.0 h, p)

  module _ (h : v.0 ≤ s.view.0) where
    pub silent : (a : Returned) → not (is_normal s.status) ≡ true → a ≡ quiet s → spoke a out ≡ recovery_step s r x v log out
    unfolding recovery_step when◌then◌else◌
    silent a n p = rw (le-ltb s.view.0 v.0 h, n, p)

    module _ (n : not (is_normal s.status) ≡ false) where
      pub leader-answers : (d : Spoke) → leads s ≡ true → d ≡ full_answer s r x log out → d ≡ recovery_step s r x v log out
      unfolding recovery_step when◌then◌else◌
      leader-answers d l p = rw (le-ltb s.view.0 v.0 h, n, l, p)

      pub backup-answers : (d : Spoke) → leads s ≡ false → d ≡ bare_answer s r x out → d ≡ recovery_step s r x v log out
      unfolding recovery_step when◌then◌else◌
      backup-answers d l p = rw (le-ltb s.view.0 v.0 h, n, l, p)
