-- Laws of the totals that a journal's entries leave in a run.
--     given_is, after_is, after-bytes    the fee rules on a run of totals are those on the list that it stands for
--     through-none, through-more         a turn of the entries of a run
--     zero-totals, zero-bytes            totals of 0
--     totals-are                         a run of totals as a whole
-- Assumes nothing.
use mathlib.Core.Path.{◌≡◌, refl, sym, ap, ◌∙◌}
use mathlib.Core.List.{List, [], ◌∷◌}
use Prim.Native.Nat.{ℕ, zero, suc, ◌+◌, ◌-◌, ◌*◌, ◌^◌, ◌≤◌, ◌<◌}
use native.Mathlib.Numerals.{add-one}
use native.Mathlib.Omega.{arith}
use lib.Dec.{ltb}
use lib.ListN.{length, drop, replicate, replicate-append-replicate}
use lib.Seq.{take_all}
use Rattle.numbers.specs.Numbers.{num, big, Bytes}
use Rattle.numbers.specs.Cells.{cells, packed, Codec}
use Rattle.numbers.proofs.WordLaws.{split}
use Rattle.numbers.proofs.NumberLaws.{be-big, big-num, big-bytes, num-front}
use Rattle.numbers.proofs.RunLaws.{put-bytes}
use Rattle.numbers.proofs.CellLaws.{packed-cells}
use Rattle.entries.specs.declared.Entry.{Entry}
use Rattle.fees.specs.Fees.{outcome_on, total_bytes_after}
use Rattle.fees.specs.declared.Outcome.{Outcome}
use Rattle.model.specs.Book.{outcome, totals_after, through}
use Rattle.model.proofs.BookLaws.{through-append}
use Rattle.layout.specs.Layout.{total_of}
use Rattle.layout.proofs.BookLift.{outcome-lift, totals-lift}
use Rattle.journal.specs.Journal.{no_totals}
use Rattle.journal.proofs.FrameLaws.{cells-last}

-- entries read by any reader of cells
module _ (w : ℕ) (get : List ℕ → Entry) (ts : List ℕ) (s : List ℕ) where
  pub through-none : ts ≡ through ts (cells w get 0 s)
  unfolding through cells
  through-none = refl

  pub through-more : (k : ℕ) (us : List ℕ) (e : Entry) → us ≡ through ts (cells w get k s) → e ≡ get (drop (w * k) s)
      → totals_after us e ≡ through ts (cells w get (k + 1) s)
  unfolding through
  through-more k us e p q =
      rw (p, q, add-one, cells-last w get k s) (sym (through-append ts (cells w get k s) (get (drop (w * k) s) ∷ [])))

module _ (M : ℕ) (totals : List ℕ) (e : Entry) where
  -- what the rules give on the run, where it stands for these totals
  pub given_is : (ts : List ℕ) (o : Outcome) → cells 8 total_of M totals ≡ ts → o ≡ outcome_on M totals e → o ≡ outcome ts e
  given_is ts o p q = q ∙ sym (outcome-lift M totals e) ∙ ap (λ (us : List ℕ). outcome us e) p

  pub after_is : (after : List ℕ) → Bytes totals → 8 * M ≤ length totals → after ≡ total_bytes_after M totals e
      → cells 8 total_of M after ≡ totals_after (cells 8 total_of M totals) e
  after_is after b w p = ap (cells 8 total_of M) p ∙ totals-lift M totals e b w

  pub after-bytes : Bytes totals → Bytes (total_bytes_after M totals e)
  unfolding total_bytes_after
  after-bytes b =
      split Bytes (ltb e.member M) _ _
      (λ _. put-bytes (8 * e.member) (big 8 (outcome_on M totals e).total) totals (big-bytes 8 (outcome_on M totals e).total) b)
      (λ _. b)

-- ---- totals of 0, and a run of totals as a whole

-- M totals of 0 at the front of a run of zeros
pub zero-totals : (M n : ℕ) → 8 * M ≤ n → cells 8 total_of M (replicate n 0) ≡ no_totals M
unfolding cells num
zero-totals zero n h = refl
zero-totals (suc M) n h =
    let m : n ≡ 8 + (n - 8) = omega arith in
    rw (m, ← replicate-append-replicate {A = ℕ} 8 (n - 8) 0) (ap (λ (ts : List ℕ). 0 ∷ ts) (zero-totals M (n - 8) (omega arith)))

pub zero-bytes : (n : ℕ) → Bytes (replicate n 0)
zero-bytes zero i = omega arith
zero-bytes (suc n) zero = omega arith
zero-bytes (suc n) (suc i) = zero-bytes n i

abbrev pub TotalFits : ℕ → Type 0
TotalFits t = t < 2 ^ 64

pub total-codec : Codec 8 total_of (big 8) TotalFits
unfolding num big
total-codec = record { width = λ x. refl; front = λ s t h. num-front 8 0 s t h; back = λ x t f. be-big 8 x f }

-- a run of M totals is their bytes, one after the other
pub totals-are : (M : ℕ) (run : List ℕ) (ts : List ℕ) → Bytes run → length run ≡ 8 * M → cells 8 total_of M run ≡ ts → run ≡ packed (big 8) ts
totals-are M run ts b l p =
    sym (take_all (8 * M) run (omega arith))
    ∙ sym (packed-cells 8 total_of (big 8) TotalFits total-codec (λ s h r. big-num 8 0 s h (omega arith)) M run b (omega arith))
    ∙ ap (packed (big 8)) p
