-- What reading a state run by places gives.
--     setup_of-at, clock_of-at, report_of-at, reports_of-at, state_with-is                 the parts, and the state
--     reports-next, reports-stop, reports-stop₂                                       one turn of the look over the reports
--     not-long, no-status, no-catching, no-heard, by-sent                             the tests in order, those of the reports left aside
--     front_long, state-long                                                          a run that passes is 154 bytes long
-- Assumes nothing.
use mathlib.Core.Path.{◌≡◌, sym, ap, ◌∙◌}
use mathlib.Core.Logic.{⊎_elim}
use mathlib.Core.Bool.{Bool, true, false, not, false≢true}
use mathlib.Core.List.{List, [], ◌∷◌}
use Prim.Native.Nat.{ℕ, suc, ◌+◌, ◌≤◌, ◌<◌}
use native.Mathlib.Nat.{add-zero}
use lib.ListN.{length, drop}
use lib.Seq.{drop-drop}
use borrow.Author.Tests.{not-true, not-false, le-leb, lt-leb, ne_eqb}
use Rattle.numbers.specs.Words.{when◌then◌else◌, ◌and◌}
use Rattle.numbers.specs.Numbers.{num, view_at, op_at}
use Rattle.numbers.specs.Cells.{cells}
use Rattle.numbers.proofs.WordLaws.{and_both}
use Rattle.numbers.specs.declared.View.{View}
use Rattle.numbers.specs.declared.Op.{Op}
use Rattle.numbers.proofs.NumberLaws.{num-drop, eq-or-not}
use Rattle.config.specs.declared.Setup.{Setup}
use Rattle.clock.specs.declared.Clock.{Clock}
use Rattle.frames.specs.declared.Status.{Status}
use Rattle.state.specs.declared.Replica.{Replica}
use Rattle.state.specs.declared.Report.{Report}
use Rattle.state.specs.declared.Reports.{Reports}
use Rattle.state_bytes.specs.Layout.{flag_ok, flag_of, status_of, setup_of, clock_of}
use Rattle.state_bytes.specs.Layout.{report_in, reports_of, all_reports_ok}
use Rattle.state_bytes.specs.Layout.{state_with, front_ok, state_ok}

-- ---- reading by places

module _ (s : List ℕ) (at : ℕ) where
  -- a number at the place itself
  num-at : (k : ℕ) → num k at s ≡ num k 0 (drop at s)
  num-at k = sym (num-drop k at 0 s ∙ ap (λ (a : ℕ). num k a s) (add-zero at))

  -- and behind it
  num-behind : (k b : ℕ) → num k (at + b) s ≡ num k b (drop at s)
  num-behind k b = sym (num-drop k at b s)

  pub setup_of-at : {n id timeout room members : ℕ} → n ≡ num 1 at s → id ≡ num 1 (at + 1) s → timeout ≡ num 2 (at + 2) s
      → room ≡ num 4 (at + 4) s → members ≡ num 4 (at + 8) s
      → ◌≡◌ {A = Setup} (record { n = n; id = id; timeout = timeout; room = room; members = members }) (setup_of (drop at s))
  unfolding setup_of
  setup_of-at p q r t u =
      λ i. record {
        n = (p ∙ num-at 1) i;
        id = (q ∙ num-behind 1 1) i;
        timeout = (r ∙ num-behind 2 2) i;
        room = (t ∙ num-behind 4 4) i;
        members = (u ∙ num-behind 4 8) i;
      }

  pub clock_of-at : {heard : Bool} {waiting stable attempts : ℕ} → heard ≡ flag_of (num 1 at s) → waiting ≡ num 4 (at + 1) s
      → stable ≡ num 2 (at + 5) s → attempts ≡ num 1 (at + 7) s
      → ◌≡◌ {A = Clock} (record { heard = heard; waiting = waiting; stable = stable; attempts = attempts }) (clock_of (drop at s))
  unfolding clock_of
  clock_of-at p q r t =
      λ i. record {
        heard = (p ∙ ap flag_of (num-at 1)) i;
        waiting = (q ∙ num-behind 4 1) i;
        stable = (r ∙ num-behind 2 5) i;
        attempts = (t ∙ num-behind 1 7) i;
      }

  pub report_of-at : {there full : Bool} {view : View} {op commit : Op} → there ≡ flag_of (num 1 at s) → full ≡ flag_of (num 1 (at + 1) s)
      → view ≡ view_at (at + 2) s → op ≡ op_at (at + 6) s → commit ≡ op_at (at + 10) s
      → ◌≡◌ {A = Report} (record { there = there; full = full; view = view; op = op; commit = commit }) (report_in (drop at s))
  unfolding report_in
  report_of-at p q r t u =
      λ i. record {
        there = (p ∙ ap flag_of (num-at 1)) i;
        full = (q ∙ ap flag_of (num-behind 1 1)) i;
        view = (r ∙ ap (λ (k : ℕ). record { 0 = k }) (num-behind 4 2)) i;
        op = (t ∙ ap (λ (k : ℕ). record { 0 = k }) (num-behind 4 6)) i;
        commit = (u ∙ ap (λ (k : ℕ). record { 0 = k }) (num-behind 4 10)) i;
      }

  pub reports_of-at : {d0 d1 d2 d3 d4 d5 d6 : Report} → d0 ≡ report_in (drop at s) → d1 ≡ report_in (drop (at + 14) s)
      → d2 ≡ report_in (drop (at + 28) s) → d3 ≡ report_in (drop (at + 42) s) → d4 ≡ report_in (drop (at + 56) s)
      → d5 ≡ report_in (drop (at + 70) s) → d6 ≡ report_in (drop (at + 84) s)
      → ◌≡◌ {A = Reports} (record { rows = d0 ∷ d1 ∷ d2 ∷ d3 ∷ d4 ∷ d5 ∷ d6 ∷ [] }) (reports_of (drop at s))
  unfolding reports_of cells
  reports_of-at p0 p1 p2 p3 p4 p5 p6 =
      let t = drop at s in
      rw (
        drop-drop 14 14 t,
        drop-drop 14 28 t,
        drop-drop 14 42 t,
        drop-drop 14 56 t,
        drop-drop 14 70 t,
        drop-drop 14 at s,
        drop-drop 28 at s,
        drop-drop 42 at s,
        drop-drop 56 at s,
        drop-drop 70 at s,
        drop-drop 84 at s,
        p0,
        p1,
        p2,
        p3,
        p4,
        p5,
        p6,
      )

pub state_with-is : (s : List ℕ) (reports : Reports) {k : ℕ} {setup : Setup} {status : Status} {view normal : View} {catching : Bool} {op commit : Op} {takings : ℕ}
    {clock : Clock} {starts : ℕ} {sent : Bool} {nonce : ℕ}
    → setup ≡ setup_of s → k ≡ num 1 12 s → status ≡ status_of k → view ≡ view_at 13 s → normal ≡ view_at 17 s → catching ≡ flag_of (num 1 21 s)
    → op ≡ op_at 22 s → commit ≡ op_at 26 s → takings ≡ num 8 146 s → clock ≡ clock_of (drop 30 s) → starts ≡ num 1 38 s → sent ≡ flag_of (num 1 39 s)
    → nonce ≡ num 8 40 s
    → ◌≡◌ {A = Replica} (record {
      setup = setup;
      status = status;
      view = view;
      normal = normal;
      catching = catching;
      op = op;
      commit = commit;
      takings = takings;
      clock = clock;
      starts = starts;
      sent = sent;
      nonce = nonce;
      reports = reports;
    }) (state_with s reports)
state_with-is s reports p k q r t u v w j x y z a =
    λ i. record {
      setup = p i;
      status = (q ∙ ap status_of k) i;
      view = r i;
      normal = t i;
      catching = u i;
      op = v i;
      commit = w i;
      takings = j i;
      clock = x i;
      starts = y i;
      sent = z i;
      nonce = a i;
      reports = reports;
    }

-- ---- the look over the reports

module _ (s : List ℕ) (p m : ℕ) where
  pub reports-next : flag_ok (num 1 p s) ≡ true → flag_ok (num 1 (p + 1) s) ≡ true
      → all_reports_ok (suc m) (drop p s) ≡ all_reports_ok m (drop (p + 14) s)
  unfolding all_reports_ok ◌and◌
  reports-next e f = rw (← num-at s p 1, ← num-behind s p 1 1, e, f, drop-drop)

  pub reports-stop : flag_ok (num 1 p s) ≡ false → all_reports_ok (suc m) (drop p s) ≡ false
  unfolding all_reports_ok ◌and◌
  reports-stop e = rw (← num-at s p 1, e)

  pub reports-stop₂ : flag_ok (num 1 p s) ≡ true → flag_ok (num 1 (p + 1) s) ≡ false → all_reports_ok (suc m) (drop p s) ≡ false
  unfolding all_reports_ok ◌and◌
  reports-stop₂ e f = rw (← num-at s p 1, ← num-behind s p 1 1, e, f)

-- ---- the tests in order

module _ (s : List ℕ) where
  pub not-long : (length s ≡ 154 → ⊥) → false ≡ front_ok s
  unfolding front_ok when◌then◌else◌
  not-long h = rw (ne_eqb (length s) 154 h)

  module _ (l : length s ≡ 154) {k : ℕ} (p : k ≡ num 1 12 s) where
    pub no-status : 3 < k → false ≡ front_ok s
    unfolding front_ok when◌then◌else◌ ◌and◌
    no-status h = rw (l, ← p, lt-leb k 3 h)

    module _ (h : k ≤ 3) {a : Bool} (q : a ≡ flag_ok (num 1 21 s)) where
      pub no-catching : not a ≡ true → false ≡ front_ok s
      unfolding front_ok when◌then◌else◌ ◌and◌
      no-catching e = rw (l, ← p, le-leb k 3 h, ← q, not-true a e)

      module _ (e : not a ≡ false) {b : Bool} (r : b ≡ flag_ok (num 1 30 s)) where
        pub no-heard : not b ≡ true → false ≡ front_ok s
        unfolding front_ok when◌then◌else◌ ◌and◌
        no-heard f = rw (l, ← p, le-leb k 3 h, ← q, not-false a e, ← r, not-true b f)

        pub by-sent : not b ≡ false → {d : Bool} → d ≡ flag_ok (num 1 39 s) → d ≡ front_ok s
        unfolding front_ok when◌then◌else◌ ◌and◌
        by-sent f t = rw (l, ← p, le-leb k 3 h, ← q, not-false a e, ← r, not-false b f, t)

pub front_long : (s : List ℕ) → front_ok s ≡ true → length s ≡ 154
front_long s h = ⊎_elim (λ l. l) (λ n. absurd (false≢true (not-long s n ∙ h))) (eq-or-not (length s) 154)

pub state-long : (s : List ℕ) → state_ok s ≡ true → length s ≡ 154
unfolding state_ok
state-long s h = front_long s (and_both _ _ h).0
