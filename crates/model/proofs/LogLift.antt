-- The log's bytes are the model's log: the tests of refusals 6 and 7, and raw bytes in frames.
--     rising-front, rises-lift    refusal 6, later cause, for what stands after the first n
--     packed-log, packed-back     the bytes of the entries are those that stand there
--     keeps-lift                  refusal 7
-- Assumes nothing.
use Prim.Native.Nat.{ℕ, zero, suc, ◌+◌, ◌-◌, ◌*◌, ◌≤◌}
use native.Mathlib.Omega.{arith}
use mathlib.Core.Path.{◌≡◌, refl, ap, sym, ◌∙◌}
use mathlib.Core.Bool.{Bool, true, false}
use mathlib.Core.List.{List, [], ◌∷◌, ◌++◌}
use lib.ListN.{length, take, drop, length-drop, take-append-drop}
use lib.Seq.{take-add}
use borrow.Author.Tests.{eq-eqb}
use Rattle.numbers.specs.Words.{◌and◌}
use Rattle.numbers.specs.Numbers.{Bytes}
use Rattle.numbers.specs.Cells.{cells, packed}
use Rattle.numbers.proofs.WordLaws.{and_left, and_right, and-true}
use Rattle.numbers.proofs.NumberLaws.{drop-bytes}
use Rattle.numbers.proofs.CellLaws.{cells-length, cells-drop, cells-take}
use Rattle.entries.specs.Entries.{entry_of, encode_entry, entries, entries_ok}
use Rattle.entries.specs.Places.{entry_place}
use Rattle.entries.specs.Rising.{follows, rising}
use Rattle.entries.specs.declared.Entry.{Entry}
use Rattle.entries.proofs.EntryLaws.{encode-decode}
use Rattle.entries.proofs.PlaceLaws.{place_is, place_mono}
use Rattle.book.specs.Log.{rises_after, keeps_first}
use Rattle.book.proofs.LogLaws.{rises-after, keeps-prefix, keeps-entries, prefix-keeps}
use Rattle.book.proofs.EntryRules.{ok-front, ok-back}
use Rattle.model.specs.Book.{same_entry, agree}
use Rattle.model.proofs.BookLaws.{agree-take, agree-le}

-- ---- rising

follows-front : (e : Entry) (es fs : List Entry) → follows e (es ++ fs) ≡ true → follows e es ≡ true
unfolding follows
follows-front e [] fs h = refl
follows-front e (g ∷ es) fs h = and-true _ _ (and_left _ _ h) (follows-front e es fs (and_right _ _ h))

pub rising-front : (es fs : List Entry) → rising (es ++ fs) ≡ true → rising es ≡ true
unfolding rising
rising-front [] fs h = refl
rising-front (e ∷ es) fs h = and-true _ _ (follows-front e es fs (and_left _ _ h)) (rising-front es fs (and_right _ _ h))

pub rises-lift : (op n k : ℕ) (log part : List ℕ) → rising (entries op log) ≡ true → n ≤ op
    → rising (take n (entries op log) ++ entries k part) ≡ rises_after (entries n log) (entries k part)
rises-lift op n k log part h g =
    let p : rising (take n (entries op log)) ≡ true =
    rising-front (take n (entries op log)) (drop n (entries op log)) (rw (take-append-drop n (entries op log)) h) in
    rises-after (take n (entries op log)) (entries k part) p
    ∙ ap (λ (es : List Entry). rises_after es (entries k part)) (cells-take 32 entry_of op log n g)

-- ---- raw bytes

pub packed-log : (k : ℕ) (log : List ℕ) → entries_ok k log ≡ true → Bytes log → 32 * k ≤ length log
    → packed encode_entry (entries k log) ≡ take (32 * k) log
unfolding packed cells entries_ok
packed-log zero log ok b h = refl
packed-log (suc k) log ok b h =
    let m : 32 * suc k ≡ 32 + 32 * k = omega arith in
    let l : 32 * k ≤ length (drop 32 log) = simp length-drop (omega arith) in
    let p : packed encode_entry (entries k (drop 32 log)) ≡ take (32 * k) (drop 32 log) =
    packed-log k (drop 32 log) (and_right _ _ ok) (drop-bytes 32 log b) l in
    rw (m, take-add 32 (32 * k) log, encode-decode log b (omega arith) (and_left _ _ ok), p)

-- the bytes from op number i + 1 on
pub packed-back : (op i : ℕ) (log : List ℕ) → i ≤ op → entries_ok op log ≡ true → Bytes log → entry_place op ≤ length log
    → packed encode_entry (drop i (entries op log)) ≡ take (32 * (op - i)) (drop (entry_place i) log)
packed-back op i log g ok b h =
    let l : 32 * (op - i) ≤ length (drop (32 * i) log) = simp length-drop (omega (arith, place_is op)) in
    rw (← place_is i, cells-drop 32 entry_of op log i)
    (packed-log (op - i) (drop (32 * i) log) (ok-back op i log ok) (drop-bytes (32 * i) log b) l)

-- ---- refusal 7

same_self : (e : Entry) → same_entry e e ≡ true
unfolding same_entry ◌and◌
same_self e =
    rw (
      eq-eqb e.client e.client refl,
      eq-eqb e.request e.request refl,
      eq-eqb e.operation e.operation refl,
      eq-eqb e.member e.member refl,
      eq-eqb e.cents e.cents refl,
    )

agree-self : (n : ℕ) (xs : List Entry) → n ≤ length xs → agree n xs xs ≡ true
unfolding agree
agree-self zero xs h = refl
agree-self (suc n) [] h = absurd (omega arith)
agree-self (suc n) (x ∷ xs) h = and-true _ _ (same_self x) (agree-self n xs (omega arith))

agree-front : (n : ℕ) (xs ys : List Entry) → agree n xs ys ≡ agree n (take n xs) (take n ys)
unfolding agree
agree-front zero xs ys = refl
agree-front (suc n) [] ys = refl
agree-front (suc n) (x ∷ xs) [] = refl
agree-front (suc n) (x ∷ xs) (y ∷ ys) = ap (◌and◌ (same_entry x y)) (agree-front n xs ys)

both_ways : (a b : Bool) → (a ≡ true → b ≡ true) → (b ≡ true → a ≡ true) → a ≡ b
both_ways true b f g = sym (f refl)
both_ways false true f g = g refl
both_ways false false f g = refl

-- the fields of an entry that keeps the rules say all of its 32 bytes
pub keeps-lift : (n op k : ℕ) (log part : List ℕ) → entries_ok op log ≡ true → entries_ok k part ≡ true → Bytes log → Bytes part → n ≤ op
    → entry_place op ≤ length log → 32 * k ≤ length part → agree n (entries k part) (entries op log) ≡ keeps_first n log k part
keeps-lift n op k log part p q a b g h l =
    both_ways (agree n (entries k part) (entries op log)) (keeps_first n log k part)
    (λ t.
    let m : n ≤ k = omega (arith, agree-le n (entries k part) (entries op log) t, cells-length 32 entry_of k part) in
    let e : entries n part ≡ entries n log =
    sym (cells-take 32 entry_of k part n m) ∙ agree-take n (entries k part) (entries op log) t ∙ cells-take 32 entry_of op log n g in
    prefix-keeps n log k part m
    (sym (packed-log n log (ok-front op n log g p) a (omega (arith, place_is op)))
    ∙ ap (packed encode_entry) (sym e)
    ∙ packed-log n part (ok-front k n part m q) b (omega arith)))
    (λ t.
    let m : n ≤ k = (keeps-prefix n log k part t).0 in
    let e : entries n log ≡ entries n part = keeps-entries n log k part t (omega (arith, place_mono n op g)) l in
    agree-front n (entries k part) (entries op log)
    ∙ rw (cells-take 32 entry_of k part n m, cells-take 32 entry_of op log n g, e)
    (agree-self n (entries n part) (omega (arith, cells-length 32 entry_of n part))))
