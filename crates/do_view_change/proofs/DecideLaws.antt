-- What a report leads to, decided before anything is stored.
--     wait-short, wait-keeps, begin-short, begin-owes, begin-starts   each way out of `decided_by`
--     decides, refuses                                                `decided`, by what was judged
--     begins-long, begins-over                                        the log that a view begins with
--     keep-fits, start_fits                                           what a decision says of the areas
-- Assumes nothing.
use mathlib.Core.Path.{◌≡◌, refl, sym, ap, ◌∙◌, subst}
use mathlib.Core.Bool.{Bool}
use mathlib.Core.List.{List}
use Prim.Native.Nat.{ℕ, ◌+◌, ◌*◌, ◌≤◌, ◌<◌}
use native.Mathlib.Omega.{arith}
use lib.Dec.{ltb}
use borrow.Author.Tests.{lt-ltb, le-ltb, ltb-false}
use Rattle.numbers.specs.Words.{when◌then◌else◌}
use Rattle.numbers.specs.declared.Op.{Op}
use Rattle.numbers.proofs.WordLaws.{split}
use Rattle.book.proofs.LogLaws.{keeps-prefix}
use Rattle.state.specs.declared.Replica.{Replica}
use Rattle.state.specs.declared.Reports.{Reports}
use Rattle.reports.specs.Judge.{judged, Fits}
use Rattle.reports.specs.declared.Best.{Best}
use Rattle.reports.specs.declared.Judged.{Judged}
use Rattle.reports.specs.declared.Judged.TheVariants.{Wait, Refuse, Begin}
use Rattle.reports.proofs.JudgeLaws.{weighed-begins, begin-lies}
use Rattle.do_view_change.specs.Begin.{first_length, start_views_length, entered, owed}
use Rattle.do_view_change.specs.Record.{decided_by, decided}
use Rattle.do_view_change.specs.declared.Decision.{Decision}
use Rattle.do_view_change.specs.declared.Decision.TheVariants.{Keep, No, Start}
use Rattle.frames.specs.declared.Refusal.TheVariants.{Uncommits, NoRoomForMessages, NoRoomForReplies}

-- ---- `decided_by`

module _ (t : Replica) (first : Bool) (area replies k : ℕ) (ek : k ≡ first_length first t) where
  pub wait-short : area < k → No NoRoomForMessages ≡ decided_by Wait t first area replies
  unfolding decided_by when◌then◌else◌
  wait-short h = rw (← ek, lt-ltb area k h)

  pub wait-keeps : k ≤ area → Keep ≡ decided_by Wait t first area replies
  unfolding decided_by when◌then◌else◌
  wait-keeps h = rw (← ek, le-ltb area k h)

  module _ (best : Best) (g : Op) (m : ℕ) (em : m ≡ start_views_length (entered t best.report.op)) where
    pub begin-short : area < k + m → No NoRoomForMessages ≡ decided_by (Begin best g) t first area replies
    unfolding decided_by when◌then◌else◌
    begin-short h = rw (← ek, ← em, lt-ltb area (k + m) h)

    module _ (h : k + m ≤ area) (w : ℕ) (ew : w ≡ 36 * owed t g) where
      pub begin-owes : replies < w → No NoRoomForReplies ≡ decided_by (Begin best g) t first area replies
      unfolding decided_by when◌then◌else◌
      begin-owes l = rw (← ek, ← em, le-ltb area (k + m) h, ← ew, lt-ltb replies w l)

      pub begin-starts : w ≤ replies → Start best g ≡ decided_by (Begin best g) t first area replies
      unfolding decided_by when◌then◌else◌
      begin-starts l = rw (← ek, ← em, le-ltb area (k + m) h, ← ew, le-ltb replies w l)

-- what a decision says
unfoldable Said : Judged → (t : Replica) (first : Bool) (a b : ℕ) → Decision → Type 0
Said j t first a b Keep = first_length first t ≤ a
Said j t first a b (No k) = Unit
Said j t first a b (Start best g) =
    (j ≡ Begin best g) × ((first_length first t + start_views_length (entered t best.report.op) ≤ a) × (36 * owed t g ≤ b))

said : (j : Judged) (t : Replica) (first : Bool) (a b : ℕ) → Said j t first a b (decided_by j t first a b)
unfolding Said decided_by
said Wait t first a b = split (Said Wait t first a b) (ltb a (first_length first t)) (No NoRoomForMessages) Keep (λ _. tt) (λ e. ltb-false _ _ e)
said Refuse t first a b = tt
said (Begin best g) t first a b =
    split (Said (Begin best g) t first a b) _ (No NoRoomForMessages) _ (λ _. tt) λ e.
    split (Said (Begin best g) t first a b) _ (No NoRoomForReplies) (Start best g) (λ _. tt) λ f. (refl, (ltb-false _ _ e, ltb-false _ _ f))

-- ---- `decided`

module _ (t : Replica) (rows : Reports) (r : ℕ) (first : Bool) (area replies : ℕ) (log stored fresh : List ℕ) where
  abbrev judge : Judged
  judge = judged rows t.setup.n r t.setup.room t.commit.0 log stored fresh

  module _ (j : Judged) (ej : j ≡ judge) where
    pub decides : (k : Judged) (a : Decision) → j ≡ k → a ≡ decided_by k t first area replies
        → a ≡ decided t rows r first area replies log stored fresh
    unfolding decided
    decides k a e p = p ∙ ap (λ (x : Judged). decided_by x t first area replies) (sym e ∙ ej)

    pub refuses : j ≡ Refuse → No Uncommits ≡ decided t rows r first area replies log stored fresh
    unfolding decided_by
    refuses e = decides Refuse (No Uncommits) e refl

    pub begins-long : Fits rows t.setup.n r t.setup.room stored fresh → (b : Best) (g : Op) → j ≡ Begin b g
        → b.report.op.0 ≤ t.setup.room
    begins-long f b g e = (begin-lies rows t.setup.n r t.setup.room t.commit.0 log stored fresh f b g (sym ej ∙ e)).long

  -- what it says of the areas
  module _ (j : Decision) (ej : j ≡ decided t rows r first area replies log stored fresh) where
    pub keep-fits : j ≡ Keep → first_length first t ≤ area
    unfolding Said decided
    keep-fits e = subst (Said judge t first area replies) (sym ej ∙ e) (said judge t first area replies)

    pub start_fits : (b : Best) (g : Op) → j ≡ Start b g
        → (judge ≡ Begin b g)
        × ((first_length first t + start_views_length (entered t b.report.op) ≤ area) × (36 * owed t g ≤ replies))
    unfolding Said decided
    start_fits b g e = subst (Said judge t first area replies) (sym ej ∙ e) (said judge t first area replies)

-- what a view begins with has all that is committed
pub begins-over : (rows : Reports) (n r room c : ℕ) (log stored fresh : List ℕ) (b : Best) (g : Op)
    → judged rows n r room c log stored fresh ≡ Begin b g → (g.0 ≤ b.report.op.0) × (c ≤ b.report.op.0)
unfolding judged
begins-over rows n r room c log stored fresh b g =
    split (λ (j : Judged). j ≡ Begin b g → (g.0 ≤ b.report.op.0) × (c ≤ b.report.op.0)) _ _ _ (λ _ e. absurd (wait e)) λ _ e.
    let z = weighed-begins _ _ r room c log stored fresh b g e in
    let p = ap (λ (x : Best). x.report.op.0) z.same-report in
    let q = ap (λ (x : Op). x.0) z.same-commit in
    (omega (arith, p, q, z.within), omega (arith, p, (keeps-prefix _ _ _ _ z.keeps).0))
  where
    wait : Wait ≡ Begin b g → ⊥
    wait e = let q : ◌≡◌ {A = ℕ} 0 1 = cc in omega arith
