-- The ticks of a view change, on plain variables, as the code's tests and calls give them.
--     last_view, next-view                             each way out of `next_view`
--     none_after, asking-short, asks-on                each way out of `next_view_asking`
--     asks-again, sends-again, calls-again             each way out of `repeated`
--     wait-over, wait-on                               each way out of `change_tick`
-- Assumes nothing.
use mathlib.Core.Path.{◌≡◌, refl, sym, ap, ◌∙◌, subst}
use mathlib.Core.Bool.{Bool, true, false}
use mathlib.Core.List.{List, [], ◌++◌}
use Prim.Native.Nat.{ℕ, ◌+◌, ◌-◌, ◌≤◌, ◌<◌}
use native.Mathlib.Omega.{arith}
use lib.ListN.{length, take, drop, length-take, length-drop}
use borrow.Author.Tests.{lt-ltb, le-ltb, leb-false}
use Rattle.numbers.specs.Numbers.{over, Wrote}
use Rattle.numbers.proofs.WordLaws.{if-true, if-false}
use Rattle.numbers.proofs.RunLaws.{over-lend, length_over}
use Rattle.config.specs.Setup.{setup_ok, primary_of}
use Rattle.config.proofs.SetupLaws.{sized}
use Rattle.clock.specs.declared.Clock.{Clock}
use Rattle.frames.specs.declared.Message.TheVariants.{GetState}
use Rattle.writers.specs.Writers.{encode, size_of, length_of}
use Rattle.writers.proofs.WriterLaws.{encode-length}
use Rattle.state.specs.State.{with_clock, changing_to}
use Rattle.state.specs.Answers.{refusal, completed}
use Rattle.state.specs.declared.Returned.{Returned}
use Rattle.state.specs.declared.Replica.{Replica}
use Rattle.steps.specs.Steps.{Spoke, spoke, asked_for_state}
use Rattle.view_change.specs.StartViewChange.{calls_length, calls_of, started_change}
use Rattle.view_change.proofs.StartViewChangeLaws.{calls-long}
use Rattle.steps.specs.Recorded.{Recorded, recorded, only_sent}
use Rattle.do_view_change.specs.Record.{send_step}
use Rattle.book.specs.Memory.{Memory}
use Rattle.voting.specs.Votes.{sent_first}
use Rattle.voting.specs.Tick.{view_after, in_last_view, next_view, asked_and_called, next_view_asking, repeated, change_tick}
use Rattle.frames.specs.declared.Refusal.TheVariants.{LastView, NoRoomForMessages}

-- another clock: the setup is as it was
pub clocked-sized : (s : Replica) (c : Clock) (t : Replica) → t ≡ with_clock s c → setup_ok s.setup ≡ true → setup_ok t.setup ≡ true
clocked-sized s c t e ok = subst (λ (x : Replica). setup_ok x.setup ≡ true) (sym e) ok

-- ---- the wait is over

module _ (s : Replica) (c : Clock) (out : List ℕ) (b : Bool) (eb : b ≡ in_last_view s) where
  pub last_view : b ≡ true → (a : Returned) → a ≡ refusal LastView s → spoke a out ≡ next_view s c out
  unfolding next_view
  last_view h a p = ap (λ (x : Returned). spoke x out) p ∙ sym (if-true _ _ _ (sym eb ∙ h))

  pub none_after : b ≡ true → (a : Returned) → a ≡ refusal LastView s → spoke a out ≡ next_view_asking s c out
  unfolding next_view_asking
  none_after h a p = ap (λ (x : Returned). spoke x out) p ∙ sym (if-true _ _ _ (sym eb ∙ h))

  module _ (h : b ≡ false) where
    pub view-small : s.view.0 < 4294967295
    unfolding in_last_view
    view-small = leb-false 4294967295 s.view.0 (sym eb ∙ h)

    pub next-view : (t : Replica) (d : Spoke) → t ≡ with_clock s c → d ≡ started_change s t (view_after s) out → d ≡ next_view s c out
    unfolding next_view
    next-view t d e p = p ∙ (λ i. started_change s (e i) (view_after s) out) ∙ sym (if-false _ _ _ (sym eb ∙ h))

    pub asking-short : (a : Returned) → length out < 16 + calls_length s → a ≡ refusal NoRoomForMessages s → spoke a out ≡ next_view_asking s c out
    unfolding next_view_asking
    asking-short a l p =
        ap (λ (x : Returned). spoke x out) p
        ∙ sym (if-false _ _ _ (sym eb ∙ h) ∙ if-true _ _ _ (lt-ltb (length out) (16 + calls_length s) l))

    -- after GetState
    module _ (ok : setup_ok s.setup ≡ true) (l : 16 + calls_length s ≤ length out) (to w : ℕ) (cur : List ℕ)
        (et : to ≡ primary_of s.setup.n s.view) (x : Wrote (encode to (GetState s.setup.id s.view s.op) []) out cur w) where
      asking-long : length (encode to (GetState s.setup.id s.view s.op) []) ≡ 16
      unfolding size_of length_of
      asking-long = encode-length to (GetState s.setup.id s.view s.op) [] refl

      asking-count : w ≡ 16
      asking-count = x.count ∙ asking-long

      asking-room : 16 + calls_length s ≤ length cur
      asking-room =
          let e = ap length x.bytes in
          let n = length_over (encode to (GetState s.setup.id s.view s.op) []) out (omega (arith, asking-long, l)) in
          omega (arith, l, e, n)

      pub calls-in : w ≤ length cur
      calls-in = omega (arith, asking-count, asking-room)

      pub calls-ask : (setup_ok s.setup ≡ true) × (calls_length s ≤ length (take (length cur - w) (drop w cur)))
      calls-ask = let n = asking-count in let r = asking-room in (ok, simp (length-take, length-drop) (omega (arith, n, r)))

      module _ (k : ℕ) (part : List ℕ) (y : Wrote (calls_of s (view_after s)) (take (length cur - w) (drop w cur)) part k) where
        calls_count : k ≡ calls_length s
        calls_count = y.count ∙ calls-long s (view_after s) ok

        pub both_small : w + k ≤ 88
        both_small = let z = sized s.setup ok in omega (arith, asking-count, calls_count, z.seven)

        both_bytes : take w cur ++ (part ++ drop (length cur - w) (drop w cur)) ≡ over (asked_and_called s) out
        unfolding asked_and_called
        both_bytes =
            over-lend (encode to (GetState s.setup.id s.view s.op) []) (calls_of s (view_after s)) out w (sym x.count) x.bytes
            y.bytes
            ∙ λ i. over (encode (et i) (GetState s.setup.id s.view s.op) [] ++ calls_of s (view_after s)) out

        pub asks-on : (u t : Replica) (a : Returned) → u ≡ with_clock s c → t ≡ changing_to u (view_after s) → a ≡ completed t (w + k) 0 false
            → spoke a (take w cur ++ (part ++ drop (length cur - w) (drop w cur))) ≡ next_view_asking s c out
        unfolding next_view_asking
        asks-on u t a eu e p =
            let q : t ≡ changing_to (with_clock s c) (view_after s) = e ∙ λ i. changing_to (eu i) (view_after s) in
            let f : a ≡ completed (changing_to (with_clock s c) (view_after s)) (16 + calls_length s) 0 false =
            p ∙ λ i. completed (q i) (asking-count i + calls_count i) 0 false in
            (λ i. spoke (f i) (both_bytes i))
            ∙ sym (if-false _ _ _ (sym eb ∙ h) ∙ if-false _ _ _ (le-ltb (length out) (16 + calls_length s) l))

-- ---- in ViewChange, where the wait isn't over

module _ (s : Replica) (c : Clock) (m : Memory) (t : Replica) (et : t ≡ with_clock s c) where
  pub asks-again : s.catching ≡ true → (a : Returned) (out : List ℕ) → spoke a out ≡ asked_for_state s t s.commit m.out
      → recorded a (record { runs = m.runs; acks = m.acks; stored = m.stored; out = out; reps = m.reps }) ≡ repeated s c m
  unfolding repeated
  asks-again h a out p =
      (λ i. only_sent m (p i)) ∙ (λ i. only_sent m (asked_for_state s (et i) s.commit m.out)) ∙ sym (if-true _ _ _ h)

  module _ (h : s.catching ≡ false) where
    pub sends-again : s.sent ≡ true → (x : Recorded) → x ≡ send_step s t true m → x ≡ repeated s c m
    unfolding repeated
    sends-again e x p = p ∙ (λ i. send_step s (et i) true m) ∙ sym (if-false _ _ _ h ∙ if-true _ _ _ e)

    pub calls-again : s.sent ≡ false → (a : Returned) (out : List ℕ) → spoke a out ≡ sent_first s t true m.out
        → recorded a (record { runs = m.runs; acks = m.acks; stored = m.stored; out = out; reps = m.reps }) ≡ repeated s c m
    unfolding repeated
    calls-again e a out p =
        (λ i. only_sent m (p i)) ∙ (λ i. only_sent m (sent_first s (et i) true m.out)) ∙ sym (if-false _ _ _ h ∙ if-false _ _ _ e)

-- ---- on_idle in ViewChange

module _ (s : Replica) (c : Clock) (up : Bool) (m : Memory) where
  pub wait-over : up ≡ true → (a : Returned) (out : List ℕ) → spoke a out ≡ next_view s c m.out
      → recorded a (record { runs = m.runs; acks = m.acks; stored = m.stored; out = out; reps = m.reps }) ≡ change_tick s c up m
  unfolding change_tick
  wait-over h a out p = (λ i. only_sent m (p i)) ∙ sym (if-true _ _ _ h)

  pub wait-on : up ≡ false → (x : Recorded) → x ≡ repeated s c m → x ≡ change_tick s c up m
  unfolding change_tick
  wait-on h x p = p ∙ sym (if-false _ _ _ h)
