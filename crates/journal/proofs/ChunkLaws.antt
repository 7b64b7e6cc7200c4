-- Laws of a run that is gone through cell by cell: what is left is the run behind the cells before.
--     Turn, turn-of, turn-next, turn-room    a cell, what is left behind it, and that it is there
--     turn-in         a cell of a run's front
--     turn-total, turn-framed, turn-result    what stands in a cell stands in the run
-- Assumes nothing.
use mathlib.Core.Path.{◌≡◌, sym, ap, ◌∙◌}
use mathlib.Core.List.{List, ◌++◌, append_assoc}
use Prim.Native.Nat.{ℕ, ◌+◌, ◌*◌, ◌≤◌, ◌<◌}
use native.Mathlib.Nat.{add-zero, mul-suc}
use native.Mathlib.Numerals.{add-one}
use native.Mathlib.Omega.{arith}
use lib.ListN.{length, take, drop, take-append-drop, length-append, length-drop}
use lib.Seq.{drop_at, drop-drop, drop-append-le}
use Rattle.numbers.specs.Numbers.{num}
use Rattle.numbers.proofs.NumberLaws.{num-drop, num-front}
use Rattle.entries.specs.Entries.{entry_of}
use Rattle.entries.proofs.EntryLaws.{entry-codec}
use Rattle.fees.specs.Results.{result_of}
use Rattle.fees.proofs.ResultLaws.{result-codec}
use Rattle.journal.specs.Journal.{framed_entry, framed_result}

-- behind k cells of s comes the cell c, and behind that t
pub record Turn (w k : ℕ) (s c t : List ℕ) : Type 0 where
  pub is : drop (w * k) s ≡ c ++ t
  pub long : length c ≡ w

pub turn-of : {w k size : ℕ} {s r c t : List ℕ} → size ≡ w → r ≡ drop (w * k) s → r ≡ c ++ t → length c ≡ size → Turn w k s c t
turn-of z h e l = record { is = sym h ∙ e; long = l ∙ z }

pub turn-next : {w k : ℕ} {s c t : List ℕ} → Turn w k s c t → t ≡ drop (w * (k + 1)) s
turn-next {w} {k} {s} {c} {t} n =
    let d : w * k + w ≡ w * (k + 1) = rw add-one (sym (mul-suc w k)) in
    sym (drop_at c t w n.long) ∙ ap (drop w) (sym n.is) ∙ drop-drop w (w * k) s ∙ ap (λ (i : ℕ). drop i s) d

pub turn-room : {w k : ℕ} {s c t : List ℕ} → Turn w k s c t → 0 < w → w * k + w ≤ length s
turn-room {w} {k} {s} {c} {t} n h = omega (arith, n.long, ap length n.is, length-append c t, length-drop (w * k) s)

-- a cell of a run's front is one of the run
pub turn-in : {w k : ℕ} {s c t : List ℕ} (n : ℕ) → Turn w k (take n s) c t → w * k ≤ length (take n s) → Turn w k s c (t ++ drop n s)
turn-in {w} {k} {s} {c} {t} n u h =
    record {
      is =
          ap (drop (w * k)) (sym (take-append-drop n s)) ∙ drop-append-le (w * k) (take n s) (drop n s) h ∙ ap (λ (x : List ℕ). x ++ drop n s) u.is
          ∙ append_assoc c t (drop n s);
      long = u.long;
    }

-- what stands in a cell stands in the run
pub turn-total : {k : ℕ} {s c t : List ℕ} → Turn 8 k s c t → num 8 0 c ≡ num 8 (8 * k) s
turn-total {k} {s} {c} {t} n =
    sym (num-front 8 0 c t (omega (arith, n.long))) ∙ ap (num 8 0) (sym n.is) ∙ num-drop 8 (8 * k) 0 s ∙ ap (λ (i : ℕ). num 8 i s) (add-zero (8 * k))

pub turn-framed : {k : ℕ} {s c t : List ℕ} → Turn 50 k s c t → framed_entry c ≡ framed_entry (drop (50 * k) s)
turn-framed {k} {s} {c} {t} n =
    sym (ap entry_of (drop-append-le 9 c t (omega (arith, n.long))) ∙ entry-codec.front (drop 9 c) t (simp length-drop (omega (arith, n.long))))
    ∙ ap framed_entry (sym n.is)

pub turn-result : {k : ℕ} {s c t : List ℕ} → Turn 50 k s c t → framed_result c ≡ framed_result (drop (50 * k) s)
turn-result {k} {s} {c} {t} n =
    sym (ap result_of (drop-append-le 41 c t (omega (arith, n.long))) ∙ result-codec.front (drop 41 c) t (simp length-drop (omega (arith, n.long))))
    ∙ ap framed_result (sym n.is)
