-- The ways out of on_recovery_response, on plain variables, as the code's tests and calls give them. Assumes nothing.
use Rattle.std.specs.Prelude.{Option, Some, None}
use mathlib.Core.Path.{◌≡◌, sym, ap, ◌∙◌, subst}
use mathlib.Core.Bool.{true, false}
use mathlib.Core.List.{List}
use mathlib.Core.Logic.{⊎_elim}
use Prim.Native.Nat.{ℕ, ◌+◌, ◌*◌, ◌≤◌, ◌<◌}
use native.Mathlib.Omega.{arith}
use lib.ListN.{length, get_or, set}
use lib.Seq.{get_or-set_same, get_or-set_other}
use borrow.Author.Tests.{eq-eqb, ne_eqb}
use Rattle.numbers.specs.Words.{when◌then◌else◌}
use Rattle.numbers.specs.declared.View.{View}
use Rattle.numbers.specs.declared.Op.{Op}
use Rattle.numbers.proofs.NumberLaws.{eq-or-not}
use Rattle.config.proofs.SetupLaws.{sized}
use Rattle.frames.specs.declared.Progress.{Progress}
use Rattle.state.specs.State.{with_reports}
use Rattle.state.specs.Statuses.{no_report}
use Rattle.state.specs.Answers.{refusal, completed, quiet}
use Rattle.state.specs.Lengths.{stored_place}
use Rattle.state.specs.declared.Returned.{Returned}
use Rattle.state.specs.declared.Replica.{Replica}
use Rattle.state.specs.declared.Report.{Report}
use Rattle.state.specs.declared.Reports.{Reports}
use Rattle.state.proofs.LengthLaws.{stored-place-next}
use Rattle.reports.specs.Rows.{with_report}
use Rattle.reports.specs.Judge.{responded, Lies, Fits}
use Rattle.reports.specs.Store.{kept_log, chosen_over}
use Rattle.reports.specs.declared.Best.{Best}
use Rattle.reports.specs.declared.Judged.{Judged}
use Rattle.reports.specs.declared.Judged.TheVariants.{Wait, Refuse, Begin}
use Rattle.reports.proofs.JudgeLaws.{response-lies, response-within}
use Rattle.reports.proofs.StoreLaws.{chosen-over-length}
use Rattle.steps.proofs.Held.{gathered-rows}
use Rattle.steps.specs.Steps.{Sound, committed_to, settled}
use Rattle.book.specs.Memory.{runs}
use Rattle.recovery.specs.Recovery.{response_of, Collecting, ResponsePassed, Collected, collected, back_in, recovered_by, by_response, collected_by, response_step}
use Rattle.frames.specs.declared.Refusal.TheVariants.{Uncommits}
use Rattle.frames.specs.Messages.{progress}

-- ---- what is held of a response

module _ (v : View) (state : Option Progress) where
  pub holds-absent : state ≡ None
      → record { there = true; full = false; view = v; op = record { 0 = 0 }; commit = record { 0 = 0 } } ≡ response_of v state
  unfolding response_of
  holds-absent e = rw e

  pub holds-present : (o c : Op) → state ≡ Some (progress o c)
      → record { there = true; full = true; view = v; op = o; commit = c } ≡ response_of v state
  unfolding response_of
  holds-present o c e = rw e

-- ---- the recovery ends

module _ (s : Replica) (b : Best) (g : Op) (r : ℕ) (fresh log results totals stored : List ℕ) where
  module _ (h : Sound s (runs log results totals)) (l : Lies b r s.setup.room stored fresh) (log' : List ℕ)
      (q : log' ≡ chosen_over b r s.setup.room stored fresh log) where
    pub back-length : length log' ≡ length log
    back-length = ap length q ∙ chosen-over-length b r s.setup.room stored fresh log l h.log-long

    -- what commit_up_to asks
    pub back-sound : (t : Replica) → s.commit.0 ≤ b.report.op.0 → g.0 ≤ b.report.op.0 → t ≡ back_in s b
        → Sound t (runs log' results totals) × (g.0 ≤ t.op.0)
    back-sound t c k p =
        subst (λ (t : Replica). Sound t (runs log' results totals) × (g.0 ≤ t.op.0)) (sym p) (
          record {
            sized = h.sized;
            commit-le = c;
            op_le = l.long;
            log-long = back-length ∙ h.log-long;
            results-long = h.results-long;
            totals-long = h.totals-long;
          },
          k,
        )

  pub comes_back : (a : Returned) (t u : Replica) (log' results' totals' : List ℕ) → t ≡ back_in s b
      → log' ≡ chosen_over b r s.setup.room stored fresh log → u ≡ committed_to t g (runs log' results totals)
      → runs log' results' totals' ≡ settled t g (runs log' results totals) → a ≡ completed u 0 0 true
      → collected a (runs log' results' totals') stored ≡ recovered_by s b g r fresh (runs log results totals) stored
  unfolding recovered_by
  comes_back a t u log' results' totals' p q c e d =
      let x = e ∙ λ i. settled (p i) g (runs (q i) results totals) in
      let y = d ∙ λ i. completed ((c ∙ λ k. committed_to (p k) g (runs (q k) results totals)) i) 0 0 true in
      λ i. collected (y i) (x i) stored

-- ---- a response is recorded

module _ (s : Replica) (r : ℕ) (d : Report) (fresh log results totals stored : List ℕ) where
  module _ (h : Collecting s (runs log results totals) (length stored)) (a : ResponsePassed s r d (length fresh)) where
    pub sender-seven : r < 7
    sender-seven = let z = sized s.setup h.sound.sized in omega (arith, a.sender, z.seven)

    -- what `keep` asks
    pub keep-fits : (s.setup.room ≤ 4096)
        × ((r < 7)
        × ((d.op.0 ≤ s.setup.room)
        × ((stored_place s.setup.room r + 32 * d.op.0 ≤ length stored) × (32 * d.op.0 ≤ length fresh))))
    keep-fits =
        let z = sized s.setup h.sound.sized in
        let p = stored-place-next s.setup.room r s.setup.n d.op.0 a.sender a.op_le in
        (z.room-high, (sender-seven, (a.op_le, (omega (arith, p, h.stored-long), a.long))))

    module _ (rows : Reports) (p : rows ≡ with_report s.reports r d) (seven : length s.reports.rows ≡ 7) where
      abbrev Small : Report → Type 0
      Small e = e.there ≡ true → e.op.0 ≤ s.setup.room

      row_fits : (i : ℕ) → i < s.setup.n → Small (get_or (set s.reports.rows r d) i no_report)
      row_fits i lt =
          ⊎_elim
          (λ e.
          subst Small
          (sym (get_or-set_same s.reports.rows r d no_report (omega (arith, seven, sender-seven)))
          ∙ ap (λ (k : ℕ). get_or (set s.reports.rows r d) k no_report) (sym e))
          (λ _. a.op_le))
          (λ ne.
          subst Small (sym (get_or-set_other s.reports.rows r i d no_report ne))
          (λ t. (gathered-rows s.setup s.starts s.reports.rows h.reports i lt t).0))
          (eq-or-not i r)

      rows_fit : Fits (with_report s.reports r d) s.setup.n r s.setup.room stored fresh
      rows_fit =
          let z = sized s.setup h.sound.sized in
          record {
            few = z.seven;
            some = omega (arith, z.three);
            small = z.room-high;
            held = omega (arith, h.stored-long);
            rows = row_fits;
            new =
                rw (get_or-set_same s.reports.rows r d no_report (omega (arith, seven, sender-seven)))
                a.long;
          }

      -- what judge_response asks
      pub judge-asks : Fits rows s.setup.n r s.setup.room stored fresh × (32 * s.commit.0 ≤ length log)
      judge-asks = (
        subst (λ (t : Reports). Fits t s.setup.n r s.setup.room stored fresh) (sym p) rows_fit,
        omega (arith, h.sound.commit-le, h.sound.op_le, h.sound.log-long),
      )

      -- what come_back asks
      pub back-asks : (j : Judged) (b : Best) (g : Op)
          → j ≡ responded rows s.setup.n r s.setup.room s.view.0 s.commit.0 log stored fresh → j ≡ Begin b g
          → Sound s (runs log results totals)
          × (Lies b r s.setup.room stored fresh × ((s.commit.0 ≤ b.report.op.0) × (g.0 ≤ b.report.op.0)))
      back-asks j b g q e =
          let begun = sym q ∙ e in (
            h.sound,
            (
              response-lies rows s.setup.n r s.setup.room s.view.0 s.commit.0 log stored fresh b g begun judge-asks.0,
              response-within rows s.setup.n r s.setup.room s.view.0 s.commit.0 log stored fresh b g begun,
            ),
          )

  module _ (rows : Reports) (p : rows ≡ with_report s.reports r d) (j : Judged)
      (q : j ≡ responded rows s.setup.n r s.setup.room s.view.0 s.commit.0 log stored fresh) where
    leads-to : (k : Judged) (y : Collected) → j ≡ k → y ≡ by_response k s rows r d.op fresh (runs log results totals) stored
        → y ≡ collected_by s r d fresh (runs log results totals) stored
    unfolding collected_by
    leads-to k y e c =
        let w = sym e ∙ q ∙ λ i. responded (p i) s.setup.n r s.setup.room s.view.0 s.commit.0 log stored fresh in
        c ∙ λ i. by_response (w i) s (p i) r d.op fresh (runs log results totals) stored

    pub keeps-it : (a : Returned) (t : Replica) (stored' : List ℕ) → j ≡ Wait → stored' ≡ kept_log s.setup.room r d.op fresh stored
        → t ≡ with_reports s rows → a ≡ quiet t
        → collected a (runs log results totals) stored' ≡ collected_by s r d fresh (runs log results totals) stored
    unfolding by_response
    keeps-it a t stored' e k w c = leads-to Wait _ e (λ i. collected ((c ∙ ap quiet w) i) (runs log results totals) (k i))

    pub refuses-it : (a : Returned) → j ≡ Refuse → a ≡ refusal Uncommits s
        → collected a (runs log results totals) stored ≡ collected_by s r d fresh (runs log results totals) stored
    unfolding by_response
    refuses-it a e c = leads-to Refuse _ e (λ i. collected (c i) (runs log results totals) stored)

    pub ends-with-it : (y : Collected) (b : Best) (g : Op) → j ≡ Begin b g
        → y ≡ recovered_by s b g r fresh (runs log results totals) stored
        → y ≡ collected_by s r d fresh (runs log results totals) stored
    unfolding by_response
    ends-with-it y b g e c = leads-to (Begin b g) y e c

-- ---- on_recovery_response

module _ (s : Replica) (v : View) (x r : ℕ) (state : Option Progress) (part log results totals stored : List ℕ) where
  pub other-nonce : (a : Returned) → (x ≡ s.nonce → ⊥) → a ≡ quiet s
      → collected a (runs log results totals) stored ≡ response_step s v x r state part (runs log results totals) stored
  unfolding response_step when◌then◌else◌
  other-nonce a h p = rw (ne_eqb x s.nonce h, p)

  pub our-nonce : (y : Collected) (d : Report) → x ≡ s.nonce → d ≡ response_of v state
      → y ≡ collected_by s r d part (runs log results totals) stored
      → y ≡ response_step s v x r state part (runs log results totals) stored
  unfolding response_step when◌then◌else◌
  our-nonce y d h e p =
      p
      ∙ (λ i. collected_by s r (e i) part (runs log results totals) stored)
      ∙ sym (rw (eq-eqb x s.nonce h))

pub answered-is : (s : Replica) (r n : ℕ) (d e : Report) → d ≡ e → ResponsePassed s r e n → ResponsePassed s r d n
answered-is s r n d e p h = subst (λ (x : Report). ResponsePassed s r x n) (sym p) h
