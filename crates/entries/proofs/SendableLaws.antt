-- Laws of entries that can be sent, and of runs of them.
--     num-fits, entry-fits, ok-entry       what bytes say fits, and keeps the rules where they do
--     run_long, run-sendable, run_is       a run that keeps the rules: its length, that its entries can be sent, and that it is their bytes
--     packed-long, packed-count, packed-ok, packed-entries     the bytes of entries that can be sent are such a run, of these entries
--     entries-packed                       the same, whatever comes behind
-- Assumes nothing.
use mathlib.Core.Path.{◌≡◌, refl, sym, ap, ◌∙◌}
use mathlib.Core.Bool.{true}
use mathlib.Core.List.{List, [], ◌∷◌, ◌++◌, append-nil}
use Prim.Native.Nat.{ℕ, zero, suc, ◌+◌, ◌*◌, ◌%◌, ◌^◌, ◌≤◌, ◌<◌}
use native.Mathlib.Nat.{lt_of_lt_of_le}
use native.Mathlib.Omega.{arith}
use lib.Dec.{eqb}
use lib.ListN.{length, take, drop, length-take, length-drop}
use lib.Seq.{drop_at, take-add, take_all}
use borrow.Author.Tests.{eqb-true, eq-eqb}
use Rattle.numbers.specs.Words.{◌and◌, All}
use Rattle.numbers.specs.Numbers.{num, Bytes}
use Rattle.numbers.specs.Cells.{cells, packed}
use Rattle.numbers.proofs.WordLaws.{and_both, and_right}
use Rattle.numbers.proofs.NumberLaws.{be-lt, pow-le256, drop-bytes, take-bytes}
use Rattle.numbers.proofs.CellLaws.{packed-length, cells-packed}
use Rattle.entries.specs.Entries.{operation_ok, entry_of, entry_ok, encode_entry, entries, entries_ok, run_count, run_ok, EntryFits, Sendable}
use Rattle.entries.specs.declared.Entry.{Entry}
use Rattle.entries.proofs.EntryLaws.{length-encode, entry_ok-encode, encode-decode, entry-codec}

-- ---- what bytes say fits

-- the number of k places, some of which may lie past the end
pub num-fits : (k a : ℕ) (s : List ℕ) → Bytes s → num k a s < 256 ^ k
unfolding num
num-fits k a s b =
    let e : length (take k (drop a s)) ≤ k = simp length-take (omega arith) in
    lt_of_lt_of_le (be-lt (take k (drop a s)) (take-bytes k (drop a s) (drop-bytes a s b))) (pow-le256 e)

pub entry-fits : (s : List ℕ) → Bytes s → EntryFits (entry_of s)
unfolding entry_of
entry-fits s b =
    record {
      client = num-fits 8 0 s b;
      request = num-fits 8 8 s b;
      operation = num-fits 1 16 s b;
      member = num-fits 4 20 s b;
      cents = num-fits 8 24 s b;
    }

pub ok-entry : (s : List ℕ) → entry_ok s ≡ true → operation_ok (entry_of s).operation (entry_of s).cents ≡ true
unfolding entry_ok entry_of
ok-entry s p = and_right _ _ p

-- ---- a run of entries

-- entries inside their rules, out of bytes
entries-sendable : (n : ℕ) (s : List ℕ) → Bytes s → entries_ok n s ≡ true → All Sendable (entries n s)
unfolding entries_ok cells
entries-sendable zero s b h = tt
entries-sendable (suc n) s b h =
    let p = and_both (entry_ok s) (entries_ok n (drop 32 s)) h in
    (record { fits = entry-fits s b; ok = ok-entry s p.0 }, entries-sendable n (drop 32 s) (drop-bytes 32 s b) p.1)

-- their bytes are the run
run-whole : (n : ℕ) (s : List ℕ) → Bytes s → 32 * n ≤ length s → entries_ok n s ≡ true → packed encode_entry (entries n s) ≡ take (32 * n) s
unfolding entries_ok cells packed
run-whole zero s b l h = refl
run-whole (suc n) s b l h =
    let p = and_both (entry_ok s) (entries_ok n (drop 32 s)) h in
    let e : 32 * suc n ≡ 32 + 32 * n = omega arith in
    let m : 32 * n ≤ length (drop 32 s) = simp length-drop (omega arith) in
    (λ i. encode-decode s b (omega arith) p.0 i ++ run-whole n (drop 32 s) (drop-bytes 32 s b) m p.1 i)
    ∙ sym (ap (λ (k : ℕ). take k s) e ∙ take-add 32 (32 * n) s)

module _ (run : List ℕ) (b : Bytes run) (ok : run_ok run ≡ true) where
  sound : (eqb (length run % 32) 0 ≡ true) × (entries_ok (run_count run) run ≡ true)
  unfolding run_ok
  sound = and_both _ _ ok

  pub run_long : length run ≡ 32 * run_count run
  run_long = let e = eqb-true (length run % 32) 0 sound.0 in omega arith

  pub run-sendable : All Sendable (entries (run_count run) run)
  run-sendable = entries-sendable (run_count run) run b sound.1

  pub run_is : packed encode_entry (entries (run_count run) run) ≡ run
  run_is =
      run-whole (run_count run) run b (omega (arith, run_long)) sound.1 ∙ take_all (32 * run_count run) run (omega (arith, run_long))

-- ---- entries that can be sent, as a run

fits_all : (es : List Entry) → All Sendable es → All EntryFits es
fits_all [] ks = tt
fits_all (e ∷ es) ks = (ks.0.fits, fits_all es ks.1)

pub entries-packed : (es : List Entry) (rest : List ℕ) → All Sendable es → entries (length es) (packed encode_entry es ++ rest) ≡ es
entries-packed es rest ks = cells-packed 32 entry_of encode_entry EntryFits entry-codec es rest (fits_all es ks)

ok-packed : (es : List Entry) → All Sendable es → entries_ok (length es) (packed encode_entry es) ≡ true
unfolding entries_ok packed ◌and◌
ok-packed [] ks = refl
ok-packed (e ∷ es) ks =
    let rest = packed encode_entry es in
    rw (entry_ok-encode e rest ks.0.fits, ks.0.ok, drop_at (encode_entry e) rest 32 (length-encode e)) (ok-packed es ks.1)

module _ (es : List Entry) (ks : All Sendable es) where
  pub packed-long : length (packed encode_entry es) ≡ 32 * length es
  packed-long = packed-length 32 entry_of encode_entry EntryFits entry-codec es

  pub packed-count : run_count (packed encode_entry es) ≡ length es
  packed-count = omega (arith, packed-long)

  pub packed-ok : run_ok (packed encode_entry es) ≡ true
  unfolding run_ok ◌and◌
  packed-ok =
      let e : length (packed encode_entry es) % 32 ≡ 0 = omega (arith, packed-long) in
      rw (eq-eqb _ _ e) (ap (λ (k : ℕ). entries_ok k (packed encode_entry es)) packed-count ∙ ok-packed es ks)

  pub packed-entries : entries (run_count (packed encode_entry es)) (packed encode_entry es) ≡ es
  packed-entries =
      (λ i. entries (packed-count i) (sym (append-nil (packed encode_entry es)) i)) ∙ entries-packed es [] ks
