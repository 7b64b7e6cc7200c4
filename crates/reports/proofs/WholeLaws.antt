-- The rows with a new report, that of replica r, whose log lies in `fresh`: the log of each lies at the front of its run, and keeps the rules of the
-- entries.
--     own-run, other-run                    the run of the new one, and of any other
--     new-whole, row-whole, chosen-whole    the new one's log, any one's, the chosen one's
--     lent_is, over-ok                      the log that the judge lends; put over ours it keeps the rules
-- Assumes nothing.
use Prim.Native.Nat.{ℕ, ◌+◌, ◌*◌, ◌≤◌, ◌<◌}
use native.Mathlib.Nat.{zero-add}
use native.Mathlib.Omega.{arith}
use mathlib.Core.Path.{◌≡◌, refl, ap, ◌∙◌, subst}
use mathlib.Core.Bool.{true}
use mathlib.Core.List.{List}
use mathlib.Core.Logic.{⊎_elim}
use lib.Dec.{eqb}
use lib.ListN.{length, get_or, set, take, drop, length-take, length-drop}
use lib.Seq.{get_or-take, get_or-set_same, get_or-set_other}
use borrow.Author.Tests.{eq-eqb, ne_eqb}
use Rattle.numbers.specs.Words.{when◌then◌else◌}
use Rattle.numbers.proofs.NumberLaws.{eq-or-not}
use Rattle.numbers.proofs.WordLaws.{if-true, if-false, split₂}
use Rattle.entries.specs.Entries.{entries_ok}
use Rattle.entries.proofs.PlaceLaws.{place_is}
use Rattle.config.specs.declared.Setup.{Setup}
use Rattle.book.specs.Log.{with_entries}
use Rattle.book.proofs.EntryRules.{part-ok}
use Rattle.state.specs.Statuses.{no_report}
use Rattle.state.specs.Lengths.{stored_place}
use Rattle.state.specs.declared.Report.{Report}
use Rattle.state.proofs.LengthLaws.{stored-place-next}
use Rattle.reports.specs.Rows.{chosen_from}
use Rattle.reports.specs.Judge.{log_from, chosen_log}
use Rattle.reports.specs.Store.{chosen_over}
use Rattle.reports.specs.declared.Best.{Best}
use Rattle.reports.proofs.RowLaws.{chosen-holds}

-- where every log is stored
abbrev pub stored_run : (u : Setup) (stored : List ℕ) → ℕ → List ℕ
stored_run u stored i = drop (stored_place u.room i) stored

module _ (u : Setup) (stored : List ℕ) (r : ℕ) (fresh : List ℕ) where
  -- all but the new one's
  abbrev pub run_of : ℕ → List ℕ
  run_of i = when eqb i r then fresh else stored_run u stored i

  pub own-run : run_of r ≡ fresh
  own-run = if-true _ fresh (stored_run u stored r) (eq-eqb r r refl)

  pub other-run : (j : ℕ) → (j ≡ r → ⊥) → run_of j ≡ stored_run u stored j
  other-run j q = if-false _ fresh (stored_run u stored j) (ne_eqb j r q)

  -- of one of the n replicas
  pub record Whole (i : ℕ) (x : Report) : Type 0 where
    pub below : i < u.n
    pub short : x.op.0 ≤ u.room
    pub long : 32 * x.op.0 ≤ length (run_of i)
    pub rules : entries_ok x.op.0 (run_of i) ≡ true

  pub new-whole : (d : Report) → r < u.n → d.op.0 ≤ u.room → 32 * d.op.0 ≤ length fresh → entries_ok d.op.0 fresh ≡ true
      → Whole r d
  new-whole d below short long ok =
      record { below = below; short = short; long = rw own-run long; rules = ap (entries_ok d.op.0) own-run ∙ ok }

  -- ---- its log

  module _ (b : Best) where
    abbrev k : ℕ
    k = b.report.op.0

    pub lent_is : chosen_log b r u.room stored fresh ≡ take (32 * b.report.op.0) (run_of b.id)
    unfolding chosen_log log_from
    lent_is = split₂ (λ (x y : List ℕ). x ≡ take (32 * k) y) _ _ _ _ _ _ refl (λ _. refl) (λ _. refl)

    pub over-ok : Whole b.id b.report → (log : List ℕ) → length log ≡ 32 * u.room
        → entries_ok b.report.op.0 (chosen_over b r u.room stored fresh log) ≡ true
    unfolding chosen_over entries_ok
    over-ok w log long =
        ap (λ (x : List ℕ). entries_ok k (with_entries 0 x log)) lent_is
        ∙ subst (λ (i : ℕ). entries_ok i (with_entries 0 (take (32 * k) (run_of b.id)) log) ≡ true) (zero-add k)
        (part-ok 0 0 k log (run_of b.id) (omega arith) (omega (arith, place_is (0 + k), w.short, long)) w.long refl w.rules)

  -- ---- the rows, from what is known of those before

  module _ (l : List Report) (d : Report) (new : Whole r d) (some : 0 < u.n) (few : u.n ≤ length l)
      (held : stored_place u.room u.n ≤ length stored)
      (fits : (i : ℕ) → i < u.n → (get_or l i no_report).there ≡ true → (get_or l i no_report).op.0 ≤ u.room)
      (rules : (i : ℕ) → i < u.n → (get_or l i no_report).there ≡ true
      → entries_ok (get_or l i no_report).op.0 (drop (stored_place u.room i) stored) ≡ true) where
    old-whole : (i : ℕ) → i < u.n → (i ≡ r → ⊥) → (get_or l i no_report).there ≡ true → Whole i (get_or l i no_report)
    old-whole i lt q p =
        let e = other-run i q in
        let s = fits i lt p in
        let n = stored-place-next u.room i u.n (get_or l i no_report).op.0 lt s in
        record {
          below = lt;
          short = s;
          long = rw e (omega (arith, length-drop (stored_place u.room i) stored, held, n));
          rules = ap (entries_ok (get_or l i no_report).op.0) e ∙ rules i lt p;
        }

    pub row-whole : (i : ℕ) → i < u.n → (get_or (set l r d) i no_report).there ≡ true → Whole i (get_or (set l r d) i no_report)
    row-whole i lt =
        ⊎_elim (λ q. rw (q, get_or-set_same l r d no_report (omega (arith, new.below, few))) (λ _. new))
        (λ q. rw (get_or-set_other l r i d no_report q) (old-whole i lt q)) (eq-or-not i r)

    no_whole : Whole 0 no_report
    unfolding entries_ok
    no_whole = record { below = some; short = omega arith; long = omega arith; rules = refl }

    pub chosen-whole : Whole (chosen_from 0 (take u.n (set l r d))).id (chosen_from 0 (take u.n (set l r d))).report
    chosen-whole =
        chosen-holds Whole 0 (take u.n (set l r d))
        (λ i lt.
        let z : 0 + i ≡ i = omega arith in
        let n : i < u.n = omega (arith, length-take u.n (set l r d)) in
        rw (z, get_or-take u.n (set l r d) i no_report n) (row-whole i n))
        no_whole
