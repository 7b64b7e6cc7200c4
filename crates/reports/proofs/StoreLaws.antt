-- Laws of logs moved: kept at a place, installed from where the judge found it, our own left where it is. Assumes nothing.
use mathlib.Core.Path.{◌≡◌, ap, sym, ◌∙◌}
use mathlib.Core.List.{List, ◌++◌}
use Prim.Native.Nat.{ℕ, ◌+◌, ◌-◌, ◌*◌, ◌≤◌}
use native.Mathlib.Omega.{arith}
use lib.Dec.{eqb}
use lib.ListN.{length, take, drop, length-drop, take-append-drop}
use lib.Seq.{length-take-le, take_all}
use borrow.Author.Tests.{eq-eqb, ne_eqb}
use Rattle.numbers.specs.Numbers.{over, put_at}
use Rattle.numbers.specs.declared.Op.{Op}
use Rattle.numbers.proofs.RunLaws.{put-part}
use Rattle.numbers.proofs.WordLaws.{if-true, if-false}
use Rattle.entries.specs.Places.{entry_place}
use Rattle.entries.proofs.PlaceLaws.{place_mono, place_is}
use Rattle.book.specs.Log.{with_entries}
use Rattle.book.proofs.LogLaws.{with-length}
use Rattle.state.specs.Lengths.{stored_place}
use Rattle.reports.specs.Judge.{log_from, chosen_log, Lies}
use Rattle.reports.specs.Store.{kept_log, chosen_over}
use Rattle.reports.specs.declared.Best.{Best}
use Rattle.reports.proofs.JudgeLaws.{length-chosen}

pub kept-is : (room id : ℕ) (o : Op) (fresh stored : List ℕ) {part : List ℕ} (p : ℕ) → p ≡ stored_place room id
    → part ≡ over (take (32 * o.0) fresh) (take (length stored - p) (drop p stored))
    → take p stored ++ (part ++ drop (length stored - p) (drop p stored)) ≡ kept_log room id o fresh stored
unfolding kept_log
kept-is room id o fresh stored p h q =
    put-part stored (take (32 * o.0) fresh) p q ∙ ap (λ (a : ℕ). put_at a (take (32 * o.0) fresh) stored) h

module _ (b : Best) (id room : ℕ) (stored fresh log : List ℕ) (h : Lies b id room stored fresh) (long : length log ≡ 32 * room) where
  abbrev k : ℕ
  k = b.report.op.0

  pub install-fits : (0 + k ≤ 4096) × (entry_place (0 + k) ≤ length log)
  install-fits =
      let small = h.small in
      let e = h.long in
      (omega (arith, small, e), omega (arith, place_mono (0 + k) room (omega (arith, e)), place_is room, long))

  pub install-is : {log' : List ℕ} (theirs : List ℕ) → theirs ≡ chosen_log b id room stored fresh
      → log' ≡ with_entries 0 (take (32 * k) theirs) log → log' ≡ chosen_over b id room stored fresh log
  unfolding chosen_over
  install-is theirs p q =
      q
      ∙ ap (λ (x : List ℕ). with_entries 0 x log)
      (ap (λ (x : List ℕ). take (32 * k) x) p
      ∙ take_all (32 * k) (chosen_log b id room stored fresh) (omega (arith, length-chosen b id room stored fresh h)))

  pub chosen-over-length : length (chosen_over b id room stored fresh log) ≡ length log
  unfolding chosen_over
  chosen-over-length =
      with-length 0 k (chosen_log b id room stored fresh) log (length-chosen b id room stored fresh h) install-fits.1

  pub their-length : (theirs : List ℕ) → theirs ≡ chosen_log b id room stored fresh → 32 * k ≤ length theirs
  their-length theirs p = rw p (omega (arith, length-chosen b id room stored fresh h))

put-own : (n : ℕ) (log : List ℕ) → n ≤ length log → log ≡ put_at 0 (take n log) log
unfolding put_at over
put-own n log h = rw (length-take-le n log h) (sym (take-append-drop n log))

-- our own log is chosen
pub own-stays : (b : Best) (id room : ℕ) (stored log : List ℕ) → Lies b id room stored log → b.id ≡ id
    → log ≡ chosen_over b id room stored log log
unfolding chosen_over chosen_log log_from with_entries
own-stays b id room stored log h e =
    let t = eq-eqb b.id id e in
    put-own (32 * b.report.op.0) log (h.new t)
    ∙ ap (λ (x : List ℕ). put_at 0 x log) (sym (if-true (eqb b.id id) _ _ t))

-- another's is
pub own-moves : (b : Best) (id room : ℕ) (stored log : List ℕ) {log' part : List ℕ} (p : ℕ) → Lies b id room stored log → (b.id ≡ id → ⊥)
    → p ≡ stored_place room b.id → part ≡ take (length stored - p) (drop p stored)
    → log' ≡ with_entries 0 (take (32 * b.report.op.0) part) log → log' ≡ chosen_over b id room stored log log
unfolding chosen_over chosen_log log_from
own-moves b id room stored log p h e q part-is w =
    let n = 32 * b.report.op.0 in
    let old = h.old in
    let whole : take (length stored - p) (drop p stored) ≡ drop p stored =
    take_all (length stored - p) (drop p stored) (omega (arith, length-drop p stored)) in
    w
    ∙ ap (λ (x : List ℕ). with_entries 0 x log)
    (ap (λ (x : List ℕ). take n x) (part-is ∙ whole) ∙ ap (λ (a : ℕ). take n (drop a stored)) q
    ∙ sym (if-false (eqb b.id id) _ _ (ne_eqb b.id id e)))
