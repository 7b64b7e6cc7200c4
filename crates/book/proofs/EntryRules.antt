-- The entry rules along a log.
--     ok-taken                     the rules see no byte past the entries
--     ok-front, ok-back            the first entries keep them, and those after the first i
--     written-ok                   entries written after the first n
--     append-ok, part-ok           one, and a part that is carried
-- Assumes nothing.
use Prim.Native.Nat.{ℕ, zero, suc, ◌+◌, ◌-◌, ◌*◌, ◌≤◌}
use native.Mathlib.Nat.{suc-add, zero-add, zero-sub, suc-sub-suc, sub-zero}
use native.Mathlib.Omega.{arith}
use mathlib.Core.Path.{◌≡◌, refl, ap, sym, ◌∙◌}
use mathlib.Core.Bool.{true}
use mathlib.Core.List.{List, [], ◌∷◌, ◌++◌, append-nil}
use lib.ListN.{length, take, drop, length-drop, take-append-drop}
use lib.Seq.{drop-drop, drop-append-le, length-take-le}
use Rattle.numbers.specs.Numbers.{over, put_at}
use Rattle.numbers.proofs.WordLaws.{and_left, and_right, and-true}
use Rattle.numbers.proofs.NumberLaws.{num-front}
use Rattle.entries.specs.Entries.{operation_ok, entry_ok, encode_entry, entries_ok, EntryFits}
use Rattle.entries.specs.Places.{entry_place}
use Rattle.entries.specs.declared.Entry.{Entry}
use Rattle.entries.proofs.EntryLaws.{entry_ok-encode}
use Rattle.entries.proofs.PlaceLaws.{place_is, place-add, place-next}
use Rattle.book.specs.Log.{with_entries}

-- the rules see no byte past the entries
rules-front : (s t : List ℕ) → 32 ≤ length s → entry_ok (s ++ t) ≡ entry_ok s
unfolding entry_ok
rules-front s t h = rw (num-front 3 17 s t (omega arith), num-front 1 16 s t (omega arith), num-front 8 24 s t (omega arith))

ok-start : (k : ℕ) (s t : List ℕ) → 32 * k ≤ length s → entries_ok k (s ++ t) ≡ entries_ok k s
unfolding entries_ok
ok-start zero s t h = refl
ok-start (suc k) s t h =
    let l : 32 * k ≤ length (drop 32 s) = simp length-drop (omega arith) in
    rw (rules-front s t (omega arith), drop-append-le 32 s t (omega arith), ok-start k (drop 32 s) t l)

pub ok-taken : (k : ℕ) (s t : List ℕ) → 32 * k ≤ length s → entries_ok k (take (32 * k) s ++ t) ≡ entries_ok k s
ok-taken k s t h =
    let l : 32 * k ≤ length (take (32 * k) s) = omega (arith, length-take-le (32 * k) s h) in
    ok-start k (take (32 * k) s) t l
    ∙ sym (ok-start k (take (32 * k) s) (drop (32 * k) s) l)
    ∙ ap (entries_ok k) (take-append-drop (32 * k) s)

ok-join : (k m : ℕ) (s t : List ℕ) → length s ≡ 32 * k → entries_ok k s ≡ true → entries_ok m t ≡ true → entries_ok (k + m) (s ++ t) ≡ true
unfolding entries_ok
ok-join zero m [] t h p q = rw (zero-add m) q
ok-join zero m (x ∷ s) t h p q = absurd (omega arith)
ok-join (suc k) m s t h p q =
    let l : length (drop 32 s) ≡ 32 * k = simp length-drop (omega arith) in
    rw (suc-add k m, rules-front s t (omega arith), drop-append-le 32 s t (omega arith))
    (and-true _ _ (and_left _ _ p) (ok-join k m (drop 32 s) t l (and_right _ _ p) q))

pub ok-front : (k n : ℕ) (s : List ℕ) → n ≤ k → entries_ok k s ≡ true → entries_ok n s ≡ true
unfolding entries_ok
ok-front k zero s h p = refl
ok-front zero (suc n) s h p = absurd (omega arith)
ok-front (suc k) (suc n) s h p = and-true _ _ (and_left _ _ p) (ok-front k n (drop 32 s) (omega arith) (and_right _ _ p))

pub ok-back : (k i : ℕ) (s : List ℕ) → entries_ok k s ≡ true → entries_ok (k - i) (drop (32 * i) s) ≡ true
unfolding entries_ok
ok-back k zero s p = rw (sub-zero k) p
ok-back zero (suc i) s p = rw (zero-sub (suc i))
ok-back (suc k) (suc i) s p =
    let m : 32 * suc i ≡ 32 + 32 * i = omega arith in
    rw (suc-sub-suc k i, m, ← drop-drop) (ok-back k i (drop 32 s) (and_right _ _ p))

-- entries written after the first n of a log
pub written-ok : (n k : ℕ) (log w : List ℕ) → entries_ok n log ≡ true → entry_place n ≤ length log → ((t : List ℕ) → entries_ok k (w ++ t) ≡ true)
    → entries_ok (n + k) (with_entries n w log) ≡ true
unfolding with_entries put_at over
written-ok n k log w p h q =
    let l : 32 * n ≤ length log = omega (arith, place_is n) in
    rw (← place_is n)
    (ok-join n k (take (32 * n) log) (w ++ drop (length w) (drop (32 * n) log)) (length-take-le (32 * n) log l)
    (ap (entries_ok n) (sym (append-nil (take (32 * n) log))) ∙ ok-taken n log [] l ∙ p) (q (drop (length w) (drop (32 * n) log))))

pub append-ok : (op : ℕ) (log : List ℕ) (e : Entry) → EntryFits e → operation_ok e.operation e.cents ≡ true
    → entry_place (op + 1) ≤ length log → entries_ok op log ≡ true → entries_ok (op + 1) (with_entries op (encode_entry e) log) ≡ true
unfolding entries_ok
append-ok op log e f o h p =
    written-ok op 1 log (encode_entry e) p (omega (arith, place-next op)) (λ t. and-true _ _ (entry_ok-encode e t f ∙ o) refl)

pub part-ok : (op n k : ℕ) (log part : List ℕ) → n ≤ op → entry_place (n + k) ≤ length log → 32 * k ≤ length part
    → entries_ok op log ≡ true → entries_ok k part ≡ true → entries_ok (n + k) (with_entries n (take (32 * k) part) log) ≡ true
part-ok op n k log part g h l p q =
    written-ok n k log (take (32 * k) part) (ok-front op n log g p) (omega (arith, place-add n k)) (λ t. ok-taken k part t l ∙ q)
