-- Laws of the client's run.
--     nothing-pending, pending-at, record_of-is     what reading the fields at their places gives
--     record-long                                  a run that passes is 54 bytes long
--     nothing_written, waiting-written             what is pending, written and read
--     record-held                                  a record that was written passes and is read back
-- Assumes nothing.
use mathlib.Core.Path.{◌≡◌, refl, sym, ap, ◌∙◌}
use mathlib.Core.Bool.{true, false, not, false≢true}
use mathlib.Core.Logic.{⊎_elim}
use mathlib.Core.List.{List, ◌++◌, append-nil}
use Prim.Native.Nat.{ℕ, ◌^◌, ◌<◌}
use native.Mathlib.Omega.{arith}
use borrow.Author.Tests.{ne_eqb, eq-eqb}
use lib.Dec.{eqb, leb}
use lib.ListN.{length, drop, replicate, drop_of_length-le}
use lib.Seq.{drop-drop}
use Rattle.std.specs.Prelude.{Option, None, Some}
use Rattle.numbers.specs.Words.{when◌then◌else◌}
use Rattle.numbers.specs.Numbers.{big, num, view_at, over}
use Rattle.numbers.specs.declared.View.{View}
use Rattle.numbers.proofs.WordLaws.{if-true, if-false}
use Rattle.numbers.proofs.NumberLaws.{be-big, num-drop, eq-or-not}
use Rattle.entries.specs.Entries.{entry_of, encode_entry, EntryFits}
use Rattle.entries.specs.declared.Entry.{Entry}
use Rattle.entries.proofs.EntryLaws.{entry_of-encode}
use Rattle.client.specs.declared.Client.{Client}
use Rattle.client_bytes.specs.Layout.{pending_of, encode_pending, record_of, encode_record, record_ok, HoldsClient}

-- ---- reading by places

module _ (s : List ℕ) {k : ℕ} (p : k ≡ num 1 21 s) where
  first : num 1 0 (drop 21 s) ≡ k
  first = num-drop 1 21 0 s ∙ sym p

  pub nothing-pending : k ≡ 0 → None ≡ pending_of (drop 21 s)
  unfolding pending_of
  nothing-pending e = sym (if-true _ _ _ (eq-eqb _ 0 (first ∙ e)))

  pub pending-at : (k ≡ 0 → ⊥) → {e : Entry} → e ≡ entry_of (drop 22 s) → Some e ≡ pending_of (drop 21 s)
  unfolding pending_of
  pending-at h {e} q =
      let other : eqb (num 1 0 (drop 21 s)) 0 ≡ false = rw first (ne_eqb k 0 h) in
      rw (q, ← drop-drop 1 21 s) (sym (if-false _ _ _ other))

pub record_of-is : (s : List ℕ) {n id next : ℕ} {view : View} {pending : Option Entry} → n ≡ num 1 0 s → id ≡ num 8 1 s → view ≡ view_at 9 s
    → next ≡ num 8 13 s → pending ≡ pending_of (drop 21 s)
    → ◌≡◌ {A = Client} (record { n = n; id = id; view = view; next = next; pending = pending }) (record_of s)
unfolding record_of
record_of-is s p q r t u = λ i. record { n = p i; id = q i; view = r i; next = t i; pending = u i }

-- ---- the test

pub record-long : (s : List ℕ) → record_ok s ≡ true → length s ≡ 54
unfolding record_ok
record-long s h =
    ⊎_elim (λ l. l) (λ n. absurd (false≢true (sym (if-true _ _ _ (ap not (ne_eqb (length s) 54 n))) ∙ h))) (eq-or-not (length s) 54)

-- ---- what is pending

nothing-back : pending_of (encode_pending None) ≡ None
unfolding pending_of encode_pending num when◌then◌else◌
nothing-back = refl

waiting-back : (e : Entry) → EntryFits e → pending_of (encode_pending (Some e)) ≡ Some e
unfolding pending_of encode_pending num big when◌then◌else◌
waiting-back e f = ap Some (ap entry_of (sym (append-nil (encode_entry e))) ∙ entry_of-encode e _ f)

-- the writer's promise in each case
pub nothing_written : {p : Option Entry} {part : List ℕ} (a : List ℕ) → p ≡ None → part ≡ over (replicate 33 0) a
    → (part ≡ over (encode_pending p) a) × (pending_of (encode_pending p) ≡ p)
unfolding encode_pending
nothing_written a e q = rw e (q, nothing-back)

pub waiting-written : {p : Option Entry} {part : List ℕ} (e : Entry) (a : List ℕ) → p ≡ Some e → EntryFits e → part ≡ over (big 1 1 ++ encode_entry e) a
    → (part ≡ over (encode_pending p) a) × (pending_of (encode_pending p) ≡ p)
unfolding encode_pending
waiting-written e a h f q = rw h (q, waiting-back e f)

pending-length : (p : Option Entry) → length (encode_pending p) ≡ 33
unfolding encode_pending big encode_entry
pending-length None = refl
pending-length (Some e) = refl

pending-passes : (p : Option Entry) → leb (num 1 0 (encode_pending p)) 1 ≡ true
unfolding encode_pending big num
pending-passes None = refl
pending-passes (Some e) = refl

-- ---- what was written passes and is read back

module _ (c : Client) where
  record-length : length (encode_record c) ≡ 54
  unfolding encode_record big
  record-length = omega (arith, pending-length c.pending)

  record-passes : record_ok (encode_record c) ≡ true
  unfolding record_ok encode_record big num
  record-passes = if-false _ _ _ (ap not (eq-eqb _ _ record-length)) ∙ pending-passes c.pending

  record-back : c.n < 2 ^ 8 → c.id < 2 ^ 64 → c.view.0 < 2 ^ 32 → c.next < 2 ^ 64 → pending_of (encode_pending c.pending) ≡ c.pending
      → record_of (encode_record c) ≡ c
  unfolding record_of encode_record big num
  record-back f g h k back =
      λ i. record {
        n = be-big 1 c.n f i;
        id = be-big 8 c.id g i;
        view = record { 0 = be-big 4 c.view.0 h i };
        next = be-big 8 c.next k i;
        pending = back i;
      }

  pub record-held : {run : List ℕ} (before : List ℕ) → c.n < 2 ^ 8 → c.id < 2 ^ 64 → c.view.0 < 2 ^ 32 → c.next < 2 ^ 64
      → pending_of (encode_pending c.pending) ≡ c.pending → length before ≡ 54 → run ≡ over (encode_record c) before → HoldsClient c run
  unfolding over
  record-held {run} before f g h k back l p =
      let e : run ≡ encode_record c =
      p ∙ rw (drop_of_length-le before {i = length (encode_record c)} (omega (arith, record-length)), append-nil (encode_record c)) in
      record { bytes = e; ok = rw e record-passes; back = rw e (record-back f g h k back) }
