-- Our own DoViewChange, and one that comes in, as the code's tests and calls give them.
--     tell-short, tell-small, tell-in, tell-asks, both_small, tells    tell_primary
--     leads-so, follows_so                                             send_do_view_change
--     moved-gathers, moved_told, report-told                           what record_frame asks
--     too-old, not_ours, moves, tells-view, gathers                    each way out of on_do_view_change
-- Assumes nothing.
use mathlib.Core.Path.{◌≡◌, sym, ap, ◌∙◌, subst}
use mathlib.Core.Bool.{Bool, true, false, not}
use mathlib.Core.List.{List, ◌++◌}
use Prim.Native.Nat.{ℕ, ◌+◌, ◌-◌, ◌*◌, ◌≤◌, ◌<◌}
use native.Mathlib.Omega.{arith}
use lib.Dec.{eqb}
use lib.ListN.{length, take, drop, length-take, length-drop}
use lib.Seq.{length-take-le}
use borrow.Author.Tests.{lt-ltb, le-ltb, eq-eqb, ne_eqb}
use Rattle.numbers.specs.Words.{when◌then◌else◌}
use Rattle.numbers.specs.Numbers.{Wrote}
use Rattle.numbers.specs.declared.View.{View}
use Rattle.numbers.specs.declared.Op.{Op}
use Rattle.numbers.proofs.WordLaws.{if-true, if-false}
use Rattle.numbers.proofs.RunLaws.{over-lend, length_over}
use Rattle.config.specs.Setup.{primary_of}
use Rattle.config.proofs.SetupLaws.{sized}
use Rattle.frames.specs.declared.Message.TheVariants.{DoViewChange}
use Rattle.writers.specs.Writers.{encode, size_of, length_of}
use Rattle.writers.proofs.WriterLaws.{encode-length}
use Rattle.state.specs.State.{leads, changing_to}
use Rattle.state.specs.Statuses.{is_normal}
use Rattle.state.specs.Answers.{refusal, completed, quiet}
use Rattle.state.specs.declared.Returned.{Returned}
use Rattle.state.specs.declared.Replica.{Replica}
use Rattle.state.specs.declared.Report.{Report}
use Rattle.state.proofs.SoundLaws.{none-gathered}
use Rattle.steps.specs.Steps.{spoke}
use Rattle.book.specs.Memory.{Memory}
use Rattle.view_change.specs.StartView.{LogHeld, sent_start_view}
use Rattle.do_view_change.specs.Begin.{calls_first, first_length}
use Rattle.steps.specs.Recorded.{Recorded, recorded, only_sent, Gathering}
use Rattle.do_view_change.specs.Record.{Told, report_of, own_report}
use Rattle.do_view_change.specs.Record.{record_step}
use Rattle.do_view_change.specs.Record.{report_length, report_to, told_primary, send_step, do_view_change_step}
use Rattle.do_view_change.proofs.BeginLaws.{first_small, first-long}
use Rattle.frames.specs.declared.Refusal.TheVariants.{NoRoomForMessages}

-- ---- tell_primary

module _ (s t : Replica) (first : Bool) (log out : List ℕ) (k : ℕ) (ek : k ≡ first_length first t) where
  pub tell-short : (a : Returned) → length out < k + report_length t → a ≡ refusal NoRoomForMessages s → spoke a out ≡ told_primary s t first log out
  unfolding told_primary when◌then◌else◌
  tell-short a h p = rw (← ek, lt-ltb (length out) (k + report_length t) h, p)

  module _ (h : LogHeld t (length log)) where
    pub tell-small : k + report_length t ≤ 131168
    tell-small =
        let z = sized t.setup h.sized in
        omega (arith, ek, first_small first t h.sized, h.op_le, z.room-high)

    -- after the calls that go out first
    module _ (l : k + report_length t ≤ length out) (w : ℕ) (cur : List ℕ) (x : Wrote (calls_first first t) out cur w) where
      counted : w ≡ k
      counted = x.count ∙ first-long first t h.sized ∙ sym ek

      tell-room : w + report_length t ≤ length cur
      tell-room =
          let e = ap length x.bytes in
          let n = length_over (calls_first first t) out (omega (arith, x.count, counted, l)) in
          omega (arith, counted, l, e, n)

      pub tell-in : w ≤ length cur
      tell-in = omega (arith, tell-room)

      pub tell-asks : (t.op.0 ≤ 4096) × ((32 * t.op.0 ≤ length log) × (report_length t ≤ length (take (length cur - w) (drop w cur))))
      tell-asks =
          let z = sized t.setup h.sized in
          let r = tell-room in (
            omega (arith, h.op_le, z.room-high),
            (omega (arith, h.op_le, h.log-long), simp (length-take, length-drop) (omega (arith, r))),
          )

      module _ (to n : ℕ) (part : List ℕ) (et : to ≡ primary_of t.setup.n t.view)
          (y : Wrote (encode to (DoViewChange t.view t.setup.id t.normal t.op t.commit) (take (32 * t.op.0) log))
          (take (length cur - w) (drop w cur)) part n) where
        report-long : n ≡ report_length t
        unfolding size_of length_of
        report-long =
            y.count
            ∙ encode-length to (DoViewChange t.view t.setup.id t.normal t.op t.commit) (take (32 * t.op.0) log)
            (length-take-le (32 * t.op.0) log tell-asks.1.0)

        pub both_small : w + n ≤ 131168
        both_small = omega (arith, counted, report-long, tell-small)

        pub tells : (a : Returned) → a ≡ completed t (w + n) 0 false
            → spoke a (take w cur ++ (part ++ drop (length cur - w) (drop w cur))) ≡ told_primary s t first log out
        unfolding told_primary report_to when◌then◌else◌
        tells a p =
            let b = over-lend (calls_first first t) _ out w (sym x.count) x.bytes y.bytes in
            rw (← ek, le-ltb (length out) (k + report_length t) l, p, b, counted, report-long, et)

-- ---- send_do_view_change

module _ (s t : Replica) (first : Bool) (m : Memory) (b : Bool) (eb : b ≡ leads t) where
  pub leads-so : b ≡ true → (d : Recorded) → d ≡ record_step s t t.setup.id (own_report t) first m.runs.log m → d ≡ send_step s t first m
  unfolding send_step
  leads-so e d p = p ∙ sym (if-true (leads t) _ _ (sym eb ∙ e))

  pub follows_so : b ≡ false → (a : Returned) (out : List ℕ) → spoke a out ≡ told_primary s t first m.runs.log m.out
      → recorded a (record { runs = m.runs; acks = m.acks; stored = m.stored; out = out; reps = m.reps }) ≡ send_step s t first m
  unfolding send_step
  follows_so e a out p = (λ i. only_sent m (p i)) ∙ sym (if-false (leads t) _ _ (sym eb ∙ e))

-- ---- on_do_view_change

-- a later view: the reports gathered so far are forgotten
pub moved-gathers : (s : Replica) (v : View) (m : Memory) (t : Replica) → t ≡ changing_to s v → Gathering s m → Gathering t m
moved-gathers s v m t e h =
    subst (λ (x : Replica). Gathering x m) (sym e)
    (record {
      sound =
          record {
            sized = h.sound.sized;
            commit-le = h.sound.commit-le;
            op_le = h.sound.op_le;
            log-long = h.sound.log-long;
            results-long = h.sound.results-long;
            totals-long = h.sound.totals-long;
          };
      reports = none-gathered s.setup;
      acks-long = h.acks-long;
      stored-long = h.stored-long;
    })

pub report-told : (s : Replica) (r : ℕ) (last : View) (o c : Op) (part : List ℕ) (d : Report) → d ≡ report_of last o c → Told s r o c part
    → Told s r d.op d.commit part
report-told s r last o c part d e h = subst (λ (x : Report). Told s r x.op x.commit part) (sym e) h

pub moved_told : (s : Replica) (v : View) (t : Replica) (r : ℕ) (o c : Op) (part : List ℕ) → t ≡ changing_to s v → Told s r o c part
    → Told t r o c part
moved_told s v t r o c part e h =
    subst (λ (x : Replica). Told x r o c part) (sym e)
    (record { sender = h.sender; op_le = h.op_le; commit-le = h.commit-le; long = h.long })

module _ (s : Replica) (v : View) (r : ℕ) (last : View) (o c : Op) (part : List ℕ) (m : Memory) where
  pub too-old : v.0 < s.view.0 → (a : Returned) → a ≡ quiet s → recorded a m ≡ do_view_change_step s v r last o c part m
  unfolding do_view_change_step
  too-old h a p = ap (λ (x : Returned). recorded x m) p ∙ sym (if-true _ _ _ (lt-ltb v.0 s.view.0 h))

  module _ (g : s.view.0 ≤ v.0) (i : ℕ) (ei : i ≡ primary_of s.setup.n v) where
    pub not_ours : (i ≡ s.setup.id → ⊥) → (a : Returned) → a ≡ quiet s → recorded a m ≡ do_view_change_step s v r last o c part m
    unfolding do_view_change_step
    not_ours h a p =
        let q : not (eqb (primary_of s.setup.n v) s.setup.id) ≡ true = rw (← ei) (ap not (ne_eqb i s.setup.id h)) in
        ap (λ (x : Returned). recorded x m) p ∙ sym (if-false _ _ _ (le-ltb v.0 s.view.0 g) ∙ if-true _ _ _ q)

    module _ (h : i ≡ s.setup.id) where
      ours : not (eqb (primary_of s.setup.n v) s.setup.id) ≡ false
      ours = rw (← ei) (ap not (eq-eqb i s.setup.id h))

      pub moves : s.view.0 < v.0 → (t : Replica) (d : Report) (x : Recorded) → t ≡ changing_to s v → d ≡ report_of last o c
          → x ≡ record_step s t r d true part m → x ≡ do_view_change_step s v r last o c part m
      unfolding do_view_change_step
      moves l t d x et ed p =
          p ∙ (λ i. record_step s (et i) r (ed i) true part m)
          ∙ sym (if-false _ _ _ (le-ltb v.0 s.view.0 g) ∙ if-false _ _ _ ours ∙ if-true _ _ _ (lt-ltb s.view.0 v.0 l))

      module _ (l : v.0 ≤ s.view.0) (b : Bool) (eb : b ≡ is_normal s.status) where
        pub tells-view : b ≡ true → (a : Returned) (out : List ℕ) → spoke a out ≡ sent_start_view s r m.runs.log m.out
            → recorded a (record { runs = m.runs; acks = m.acks; stored = m.stored; out = out; reps = m.reps })
            ≡ do_view_change_step s v r last o c part m
        unfolding do_view_change_step
        tells-view e a out p =
            (λ i. only_sent m (p i))
            ∙ sym (if-false _ _ _ (le-ltb v.0 s.view.0 g) ∙ if-false _ _ _ ours ∙ if-false _ _ _ (le-ltb s.view.0 v.0 l)
            ∙ if-true _ _ _ (sym eb ∙ e))

        pub gathers : b ≡ false → (d : Report) (x : Recorded) → d ≡ report_of last o c → x ≡ record_step s s r d false part m
            → x ≡ do_view_change_step s v r last o c part m
        unfolding do_view_change_step
        gathers e d x ed p =
            p ∙ (λ i. record_step s s r (ed i) false part m)
            ∙ sym (if-false _ _ _ (le-ltb v.0 s.view.0 g) ∙ if-false _ _ _ ours ∙ if-false _ _ _ (le-ltb s.view.0 v.0 l)
            ∙ if-false _ _ _ (sym eb ∙ e))
