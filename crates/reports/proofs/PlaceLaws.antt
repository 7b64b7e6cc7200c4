-- Logs that are stored, a place for each replica id: a log that is kept at one place changes no other.
--     other_place, other_entries, other-ok   what is read at the other places, and the rules of its entries
--     own-place, own-ok                      what is read at its own
-- Assumes nothing.
use Prim.Native.Nat.{ℕ, ◌+◌, ◌*◌, ◌≤◌, ◌<◌}
use native.Mathlib.Omega.{arith}
use mathlib.Core.Path.{◌≡◌, sym, ap, ◌∙◌}
use mathlib.Core.List.{List, [], ◌++◌}
use mathlib.Core.Logic.{⊎_elim}
use lib.ListN.{length, take, drop, length-drop}
use lib.Seq.{drop_at, length-take-le}
use Rattle.numbers.specs.Numbers.{over, put_at}
use Rattle.numbers.specs.declared.Op.{Op}
use Rattle.numbers.proofs.NumberLaws.{le-or-lt}
use Rattle.numbers.proofs.RunLaws.{put-before, put-after, put-length}
use Rattle.numbers.proofs.CellLaws.{cells-taken, cells-front}
use Rattle.entries.specs.Entries.{entry_of, encode_entry, entries, entries_ok, EntryFits}
use Rattle.entries.proofs.EntryLaws.{entry-codec}
use Rattle.book.proofs.EntryRules.{ok-taken}
use Rattle.state.specs.Lengths.{stored_place}
use Rattle.state.proofs.LengthLaws.{stored-place-next}
use Rattle.reports.specs.Store.{kept_log}

-- ---- a log of o entries, kept at the place of replica r of n

module _ (room n r : ℕ) (o : Op) (fresh stored : List ℕ) (below : r < n) (fits : o.0 ≤ room) (long : 32 * o.0 ≤ length fresh)
    (held : stored_place room n ≤ length stored) where
  abbrev at : ℕ → ℕ
  at j = stored_place room j

  abbrev w : List ℕ
  w = take (32 * o.0) fresh

  w-long : length w ≡ 32 * o.0
  w-long = length-take-le (32 * o.0) fresh long

  inside : at r + 32 * o.0 ≤ length stored
  inside = omega (arith, stored-place-next room r n o.0 below fits, held)

  kept-long : length (kept_log room r o fresh stored) ≡ length stored
  unfolding kept_log
  kept-long = put-length (at r) w stored (omega (arith, inside, w-long))

  pub other_place : (j k : ℕ) → j < n → k ≤ room → (j ≡ r → ⊥)
      → take (32 * k) (drop (stored_place room j) (kept_log room r o fresh stored)) ≡ take (32 * k) (drop (stored_place room j) stored)
  unfolding kept_log
  other_place j k h g q =
      ⊎_elim
      (λ le.
      ap (take (32 * k))
      (put-after (at r) (at j) w stored
      (omega (arith, stored-place-next room r j o.0 (omega (arith, le, q)) fits, w-long)) (omega (arith, inside))))
      (λ lt. put-before (at r) (at j) (32 * k) w stored (stored-place-next room j r k lt g) (omega (arith, inside)))
      (le-or-lt r j)

  pub other_entries : (j k : ℕ) → j < n → k ≤ room → (j ≡ r → ⊥)
      → entries k (drop (stored_place room j) (kept_log room r o fresh stored)) ≡ entries k (drop (stored_place room j) stored)
  other_entries j k h g q =
      let n₁ : length (kept_log room r o fresh stored) ≡ length stored = kept-long in
      let e = stored-place-next room j n k h g in
      sym (taken (kept_log room r o fresh stored) (omega (arith, length-drop (at j) (kept_log room r o fresh stored), n₁, held, e)))
      ∙ ap (entries k) (other_place j k h g q)
      ∙ taken stored (omega (arith, length-drop (at j) stored, held, e))
    where
      taken : (s : List ℕ) → 32 * k ≤ length (drop (at j) s) → entries k (take (32 * k) (drop (at j) s)) ≡ entries k (drop (at j) s)
      taken s l = cells-taken 32 entry_of encode_entry EntryFits entry-codec k (drop (at j) s) l

  pub own-place : entries o.0 (drop (stored_place room r) (kept_log room r o fresh stored)) ≡ entries o.0 fresh
  unfolding kept_log put_at over
  own-place =
      ap (entries o.0) (drop_at (take (at r) stored) (over w (drop (at r) stored)) (at r) (length-take-le (at r) stored (omega (arith, inside))))
      ∙ cells-front 32 entry_of encode_entry EntryFits entry-codec o.0 fresh (drop (length w) (drop (at r) stored)) long

  -- ---- the rules

  pub other-ok : (j k : ℕ) → j < n → k ≤ room → (j ≡ r → ⊥)
      → entries_ok k (drop (stored_place room j) (kept_log room r o fresh stored)) ≡ entries_ok k (drop (stored_place room j) stored)
  other-ok j k h g q =
      let n₁ : length (kept_log room r o fresh stored) ≡ length stored = kept-long in
      let e = stored-place-next room j n k h g in
      sym (seen (kept_log room r o fresh stored) (omega (arith, length-drop (at j) (kept_log room r o fresh stored), n₁, held, e)))
      ∙ ap (λ (x : List ℕ). entries_ok k (x ++ [])) (other_place j k h g q)
      ∙ seen stored (omega (arith, length-drop (at j) stored, held, e))
    where
      seen : (s : List ℕ) → 32 * k ≤ length (drop (at j) s) → entries_ok k (take (32 * k) (drop (at j) s) ++ []) ≡ entries_ok k (drop (at j) s)
      seen s l = ok-taken k (drop (at j) s) [] l

  pub own-ok : entries_ok o.0 (drop (stored_place room r) (kept_log room r o fresh stored)) ≡ entries_ok o.0 fresh
  unfolding kept_log put_at over
  own-ok =
      ap (entries_ok o.0) (drop_at (take (at r) stored) (over w (drop (at r) stored)) (at r) (length-take-le (at r) stored (omega (arith, inside))))
      ∙ ok-taken o.0 fresh (drop (length w) (drop (at r) stored)) long
