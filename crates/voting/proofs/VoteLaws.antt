-- Votes for a view, on plain variables, as the code's tests and calls give them.
--     calls-short, calls                               only what goes out first
--     stays, catches-up, went-out, counts              each way out of `due`
--     voted-gathers, clocked-gathers, asked-gathers    what refusal 1 leaves, with other votes or another clock
--     too-early, in-time                               each way out of `maybe_step`
--     joins, is-away, leader-tells, backup-waits       each way out of `same_view`
--     too-old, moves-on, same_view_lem                     each way out of `start_view_change_step`
-- Assumes nothing.
use mathlib.Core.Path.{◌≡◌, sym, ap, ◌∙◌, subst}
use mathlib.Core.Bool.{Bool, true, false, not}
use mathlib.Core.List.{List}
use Prim.Native.Nat.{ℕ, ◌/◌, ◌≤◌, ◌<◌}
use native.Mathlib.Omega.{arith}
use Rattle.config.specs.Replicas.{count_below}
use lib.Dec.{leb}
use lib.ListN.{length}
use borrow.Author.Tests.{lt-ltb, le-ltb, not-true, not-false}
use Rattle.numbers.specs.Words.{when◌then◌else◌}
use Rattle.numbers.specs.Numbers.{Wrote}
use Rattle.numbers.specs.declared.View.{View}
use Rattle.numbers.proofs.WordLaws.{if-true, if-false}
use Rattle.config.specs.Setup.{setup_ok}
use Rattle.config.proofs.SetupLaws.{sized}
use Rattle.clock.specs.declared.Clock.{Clock}
use Rattle.state.specs.State.{leads, changing_to, with_clock, with_votes, with_start, with_sent}
use Rattle.state.specs.Statuses.{is_normal, is_changing}
use Rattle.state.specs.Answers.{refusal, completed, quiet}
use Rattle.state.specs.declared.Returned.{Returned}
use Rattle.state.specs.declared.Replica.{Replica}
use Rattle.state.specs.Sound.{gathered_ok}
use Rattle.state.proofs.SoundLaws.{start-gathered}
use Rattle.steps.specs.Steps.{Sound, spoke}
use Rattle.view_change.specs.StartView.{sent_start_view}
use Rattle.do_view_change.specs.Begin.{calls_first, first_length}
use Rattle.steps.specs.Recorded.{Recorded, recorded, only_sent, Gathering}
use Rattle.do_view_change.specs.Record.{send_step}
use Rattle.book.specs.Memory.{Memory}
use Rattle.do_view_change.proofs.BeginLaws.{first-long}
use Rattle.do_view_change.proofs.TellLaws.{moved-gathers}
use Rattle.voting.specs.Votes.{sent_first, report_due, maybe_step, same_view, start_view_change_step}
use Rattle.frames.specs.declared.Refusal.TheVariants.{NoRoomForMessages}

-- ---- only what goes out first

module _ (s t : Replica) (first : Bool) (out : List ℕ) (k : ℕ) (ek : k ≡ first_length first t) where
  pub calls-short : (a : Returned) → length out < k → a ≡ refusal NoRoomForMessages s → spoke a out ≡ sent_first s t first out
  unfolding sent_first when◌then◌else◌
  calls-short a h p = rw (← ek, lt-ltb (length out) k h, p)

  pub calls : setup_ok t.setup ≡ true → k ≤ length out → (a : Returned) (w : ℕ) (o : List ℕ) → Wrote (calls_first first t) out o w
      → a ≡ completed t w 0 false → spoke a o ≡ sent_first s t first out
  unfolding sent_first when◌then◌else◌
  calls ok h a w o q p =
      let c : w ≡ k = q.count ∙ first-long first t ok ∙ sym ek in
      rw (← ek, le-ltb (length out) k h, p, q.bytes, c)

-- ---- whether our DoViewChange is report_due

module _ (t : Replica) (b : Bool) (eb : b ≡ is_changing t.status) where
  pub stays : not b ≡ true → false ≡ report_due t
  unfolding report_due
  stays h = sym (if-true _ _ _ (ap not (sym eb) ∙ h))

  module _ (h : not b ≡ false) where
    pub catches-up : t.catching ≡ true → false ≡ report_due t
    unfolding report_due
    catches-up e = sym (if-false _ _ _ (ap not (sym eb) ∙ h) ∙ if-true _ _ _ e)

    module _ (e : t.catching ≡ false) where
      pub went-out : t.sent ≡ true → false ≡ report_due t
      unfolding report_due
      went-out f = sym (if-false _ _ _ (ap not (sym eb) ∙ h) ∙ if-false _ _ _ e ∙ if-true _ _ _ f)

      pub counts : t.sent ≡ false → (k : ℕ) → k ≡ count_below t.setup.n t.starts → leb (t.setup.n / 2) k ≡ report_due t
      unfolding report_due
      counts f k p =
          ap (leb (t.setup.n / 2)) p
          ∙ sym (if-false _ _ _ (ap not (sym eb) ∙ h) ∙ if-false _ _ _ e ∙ if-false _ _ _ f)

-- ---- what the calls ask

module _ (s : Replica) (m : Memory) (h : Gathering s m) where
  pub voted-gathers : (starts : ℕ) (sent : Bool) (t : Replica) → t ≡ with_votes s starts sent
      → gathered_ok s.setup starts s.reports.rows ≡ true → Gathering t m
  voted-gathers starts sent t e g =
      subst (λ (x : Replica). Gathering x m) (sym e)
      (record { sound = sound; reports = g; acks-long = h.acks-long; stored-long = h.stored-long })
    where
      sound : Sound (with_votes s starts sent) m.runs
      sound =
          record {
            sized = h.sound.sized;
            commit-le = h.sound.commit-le;
            op_le = h.sound.op_le;
            log-long = h.sound.log-long;
            results-long = h.sound.results-long;
            totals-long = h.sound.totals-long;
          }

  pub clocked-gathers : (c : Clock) (t : Replica) → t ≡ with_clock s c → Gathering t m
  clocked-gathers c t e =
      subst (λ (x : Replica). Gathering x m) (sym e)
      (record { sound = sound; reports = h.reports; acks-long = h.acks-long; stored-long = h.stored-long })
    where
      sound : Sound (with_clock s c) m.runs
      sound =
          record {
            sized = h.sound.sized;
            commit-le = h.sound.commit-le;
            op_le = h.sound.op_le;
            log-long = h.sound.log-long;
            results-long = h.sound.results-long;
            totals-long = h.sound.totals-long;
          }

  -- a replica's id is a bit of one byte
  pub bit-low : (r : ℕ) → r < s.setup.n → r < 8
  bit-low r l = let z = sized s.setup h.sound.sized in omega (arith, l, z.seven)

-- u after the move to a later view, t with the vote
pub asked-gathers : (s : Replica) (v : View) (r : ℕ) (m : Memory) (u t : Replica) → u ≡ changing_to s v → t ≡ with_start u r
    → r < s.setup.n → Gathering s m → Gathering t m
asked-gathers s v r m u t eu et lt h =
    let g = moved-gathers s v m u eu h in
    voted-gathers u m g _ _ t et
    (start-gathered u.setup u.starts r u.reports.rows (subst (λ (x : Replica). r < x.setup.n) (sym eu) lt) g.reports)

-- ---- maybe_send_do_view_change

module _ (s t : Replica) (first : Bool) (m : Memory) (b : Bool) (eb : b ≡ report_due t) where
  pub too-early : not b ≡ true → (a : Returned) (out : List ℕ) → spoke a out ≡ sent_first s t first m.out
      → recorded a (record { runs = m.runs; acks = m.acks; stored = m.stored; out = out; reps = m.reps }) ≡ maybe_step s t first m
  unfolding maybe_step
  too-early h a out p = (λ i. only_sent m (p i)) ∙ sym (if-false _ _ _ (sym eb ∙ not-true b h))

  pub in-time : not b ≡ false → (u : Replica) (x : Recorded) → u ≡ with_sent t → x ≡ send_step s u first m → x ≡ maybe_step s t first m
  unfolding maybe_step
  in-time h u x e p = p ∙ (λ i. send_step s (e i) first m) ∙ sym (if-true _ _ _ (sym eb ∙ not-false b h))

-- ---- on_start_view_change of our view

module _ (s : Replica) (r : ℕ) (m : Memory) (b : Bool) (eb : b ≡ is_changing s.status) where
  pub joins : b ≡ true → (t : Replica) (x : Recorded) → t ≡ with_start s r → x ≡ maybe_step s t false m → x ≡ same_view s r m
  unfolding same_view
  joins h t x e p = p ∙ (λ i. maybe_step s (e i) false m) ∙ sym (if-true _ _ _ (sym eb ∙ h))

  module _ (h : b ≡ false) (d : Bool) (ed : d ≡ is_normal s.status) where
    pub is-away : not d ≡ true → (a : Returned) → a ≡ quiet s → recorded a m ≡ same_view s r m
    unfolding same_view
    is-away g a p = ap (λ (x : Returned). recorded x m) p ∙ sym (if-false _ _ _ (sym eb ∙ h) ∙ if-true _ _ _ (ap not (sym ed) ∙ g))

    module _ (g : not d ≡ false) (l : Bool) (el : l ≡ leads s) where
      pub leader-tells : l ≡ true → (a : Returned) (out : List ℕ) → spoke a out ≡ sent_start_view s r m.runs.log m.out
          → recorded a (record { runs = m.runs; acks = m.acks; stored = m.stored; out = out; reps = m.reps }) ≡ same_view s r m
      unfolding same_view
      leader-tells e a out p =
          (λ i. only_sent m (p i))
          ∙ sym (if-false _ _ _ (sym eb ∙ h) ∙ if-false _ _ _ (ap not (sym ed) ∙ g) ∙ if-true _ _ _ (sym el ∙ e))

      pub backup-waits : l ≡ false → (a : Returned) → a ≡ quiet s → recorded a m ≡ same_view s r m
      unfolding same_view
      backup-waits e a p =
          ap (λ (x : Returned). recorded x m) p
          ∙ sym (if-false _ _ _ (sym eb ∙ h) ∙ if-false _ _ _ (ap not (sym ed) ∙ g) ∙ if-false _ _ _ (sym el ∙ e))

-- ---- on_start_view_change

module _ (s : Replica) (v : View) (r : ℕ) (m : Memory) where
  pub too-old : v.0 < s.view.0 → (a : Returned) → a ≡ quiet s → recorded a m ≡ start_view_change_step s v r m
  unfolding start_view_change_step
  too-old h a p = ap (λ (x : Returned). recorded x m) p ∙ sym (if-true _ _ _ (lt-ltb v.0 s.view.0 h))

  module _ (g : s.view.0 ≤ v.0) where
    pub moves-on : s.view.0 < v.0 → (u t : Replica) (x : Recorded) → u ≡ changing_to s v → t ≡ with_start u r → x ≡ maybe_step s t true m
        → x ≡ start_view_change_step s v r m
    unfolding start_view_change_step
    moves-on l u t x eu et p =
        p ∙ (λ i. maybe_step s (et i) true m) ∙ (λ i. maybe_step s (with_start (eu i) r) true m)
        ∙ sym (if-false _ _ _ (le-ltb v.0 s.view.0 g) ∙ if-true _ _ _ (lt-ltb s.view.0 v.0 l))

    pub same_view_lem : v.0 ≤ s.view.0 → (x : Recorded) → x ≡ same_view s r m → x ≡ start_view_change_step s v r m
    unfolding start_view_change_step
    same_view_lem l x p =
        p ∙ sym (if-false _ _ _ (le-ltb v.0 s.view.0 g) ∙ if-false _ _ _ (le-ltb s.view.0 v.0 l))
