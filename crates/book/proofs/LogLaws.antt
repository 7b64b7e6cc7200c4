-- Laws of the log in a lent run.
--     with_part, with-length                        entries written behind the first n
--     entry-get, append-entries, part-entries       the run as a list of entries
--     none-next                                     one entry of the log further, by places
--     rises-after                                   what the look over pairs says of the two logs joined
--     after-not, after-rising                       what is left of it where the second log is looked at first
--     same_refl, same-eq, same-bytes                two runs compared
--     keeps-short, keeps-long, keeps-prefix, prefix-keeps        our first n entries kept; keeps-entries: as lists
-- Assumes nothing.
use mathlib.Core.Path.{◌≡◌, refl, sym, ap, ◌∙◌}
use mathlib.Core.List.{List, [], ◌∷◌, ◌++◌}
use mathlib.Core.Bool.{Bool, true, false, not, false≢true, ◌&&◌}
use Rattle.std.specs.Str.{bytes_eq}
use Prim.Native.Nat.{ℕ, suc, ◌+◌, ◌-◌, ◌*◌, ◌≤◌, ◌<◌}
use native.Mathlib.Omega.{arith}
use lib.Dec.{leb, eqb}
use lib.ListN.{length, get_or, take, drop}
use lib.Seq.{length-take-le}
use borrow.Author.Tests.{eq-eqb, eqb-true, le-leb, lt-leb, leb-true}
use Rattle.numbers.specs.Words.{◌and◌}
use Rattle.numbers.specs.Numbers.{over, put_at}
use Rattle.numbers.proofs.WordLaws.{and_both, and-false, and_yes}
use Rattle.numbers.proofs.RunLaws.{put-part, put-length}
use Rattle.numbers.proofs.CellLaws.{cells-get, cells-more, cells-join, cells-front, cells-taken}
use Rattle.entries.specs.Entries.{entry_of, encode_entry, entries, EntryFits}
use Rattle.entries.specs.Places.{entry_place, entry_in}
use Rattle.entries.specs.Rising.{breaks_at, follows, rising}
use Rattle.entries.specs.declared.Entry.{Entry}
use Rattle.entries.proofs.EntryLaws.{entry-codec}
use Rattle.entries.proofs.RisingLaws.{from_at, from_next}
use Rattle.entries.proofs.PlaceLaws.{place-add, place-long}
use Rattle.book.specs.Log.{with_entries, none_breaks, rises_after, is_same, keeps_first}

-- ---- entries written

-- what comes back where a writer put es over the front of `&mut log[p..]`
pub with_part : (log es : List ℕ) {part : List ℕ} (n p : ℕ) → p ≡ entry_place n → part ≡ over es (take (length log - p) (drop p log))
    → take p log ++ (part ++ drop (length log - p) (drop p log)) ≡ with_entries n es log
unfolding with_entries
with_part log es n p h q = put-part log es p q ∙ ap (λ (a : ℕ). put_at a es log) h

pub with-length : (n k : ℕ) (es log : List ℕ) → length es ≡ 32 * k → entry_place (n + k) ≤ length log
    → length (with_entries n es log) ≡ length log
unfolding with_entries
with-length n k es log e h = put-length (entry_place n) es log (omega (arith, place-add n k))

-- ---- as lists of entries

pub entry-get : (n : ℕ) (log : List ℕ) (i : ℕ) (d : Entry) → i < n → get_or (entries n log) i d ≡ entry_in log i
entry-get n log i d h = cells-get 32 entry_of n log i d h

pub append-entries : (n : ℕ) (log : List ℕ) (e : Entry) → EntryFits e → entry_place n ≤ length log
    → entries (suc n) (with_entries n (encode_entry e) log) ≡ entries n log ++ e ∷ []
unfolding with_entries
append-entries n log e f h = cells-more 32 entry_of encode_entry EntryFits entry-codec n log e f h

pub part-entries : (n : ℕ) (log : List ℕ) (k : ℕ) (part : List ℕ) → entry_place (n + k) ≤ length log → 32 * k ≤ length part
    → entries (n + k) (with_entries n (take (32 * k) part) log) ≡ entries n log ++ entries k part
unfolding with_entries put_at over
part-entries n log k part h g =
    let l : 32 * n ≤ length log = omega (arith, h) in
    let w = take (32 * k) part in
    cells-join 32 entry_of encode_entry EntryFits entry-codec n k (take (32 * n) log) (over w (drop (32 * n) log)) (length-take-le (32 * n) log l)
    ∙ rw (
      cells-taken 32 entry_of encode_entry EntryFits entry-codec n log l,
      cells-front 32 entry_of encode_entry EntryFits entry-codec k part (drop (length w) (drop (32 * n) log)) g,
    )

-- ---- pairs of two logs

pub none-next : (n : ℕ) (log : List ℕ) (i : ℕ) (e : Entry) (fs : List Entry) → i < n → e ≡ entry_in log i
    → none_breaks (from_at n log i) fs ≡ (follows e fs and none_breaks (from_at n log (i + 1)) fs)
unfolding none_breaks
none-next n log i e fs h q = rw (from_next n log i h, q)

and_assoc : (a b c : Bool) → ((a and b) and c) ≡ (a and (b and c))
unfolding ◌and◌
and_assoc true b c = refl
and_assoc false b c = refl

follows-join : (e : Entry) (es fs : List Entry) → follows e (es ++ fs) ≡ (follows e es and follows e fs)
unfolding follows ◌and◌
follows-join e [] fs = refl
follows-join e (g ∷ es) fs = rw (follows-join e es fs, and_assoc (not (breaks_at e g)) (follows e es) (follows e fs))

pub rises-after : (es fs : List Entry) → rising es ≡ true → rising (es ++ fs) ≡ rises_after es fs
unfolding rising none_breaks rises_after ◌and◌
rises-after [] fs h = refl
rises-after (e ∷ es) fs h =
    let p = and_both (follows e es) (rising es) h in
    rw (follows-join e es fs, p.0, rises-after es fs p.1, and_assoc (follows e fs) (none_breaks es fs) (rising fs))

-- where fs is not rising, and where it is
pub after-not : (es fs : List Entry) → rising fs ≡ false → rises_after es fs ≡ false
unfolding rises_after
after-not es fs h = and-false (none_breaks es fs) (rising fs) h

pub after-rising : (es fs : List Entry) → rising fs ≡ true → rises_after es fs ≡ none_breaks es fs
unfolding rises_after
after-rising es fs h = rw h (and_yes (none_breaks es fs))

-- ---- two runs compared

pub same_refl : (xs : List ℕ) → is_same xs xs ≡ true
unfolding is_same ◌and◌
same_refl [] = refl
same_refl (x ∷ xs) = rw (eq-eqb x x refl) (same_refl xs)

pub same-eq : (xs ys : List ℕ) → is_same xs ys ≡ true → xs ≡ ys
unfolding is_same
same-eq [] [] h = refl
same-eq [] (y ∷ ys) h = absurd (false≢true h)
same-eq (x ∷ xs) [] h = absurd (false≢true h)
same-eq (x ∷ xs) (y ∷ ys) h =
    let p = and_both (eqb x y) (is_same xs ys) h in
    let e : x ≡ y = eqb-true x y p.0 in
    let f : xs ≡ ys = same-eq xs ys p.1 in
    cc

and-same : (p q : Bool) → (p && q) ≡ (p and q)
unfolding ◌and◌
and-same true q = refl
and-same false q = refl

-- what `==` says of two runs
pub same-bytes : (xs ys : List ℕ) → bytes_eq xs ys ≡ is_same xs ys
unfolding is_same ◌and◌
same-bytes [] [] = refl
same-bytes [] (y ∷ ys) = refl
same-bytes (x ∷ xs) [] = refl
same-bytes (x ∷ xs) (y ∷ ys) = rw (same-bytes xs ys, and-same (eqb x y) (is_same xs ys))

-- ---- our first n entries kept

module _ (n : ℕ) (log : List ℕ) (k : ℕ) (part : List ℕ) where
  pub keeps-short : k < n → keeps_first n log k part ≡ false
  unfolding keeps_first ◌and◌
  keeps-short h = rw (lt-leb n k h)

  pub keeps-long : n ≤ k → keeps_first n log k part ≡ is_same (take (32 * n) log) (take (32 * n) part)
  unfolding keeps_first ◌and◌
  keeps-long h = rw (le-leb n k h)

  pub keeps-prefix : keeps_first n log k part ≡ true → (n ≤ k) × (take (32 * n) log ≡ take (32 * n) part)
  unfolding keeps_first
  keeps-prefix h =
      let p = and_both (leb n k) (is_same (take (32 * n) log) (take (32 * n) part)) h in
      (leb-true n k p.0, same-eq (take (32 * n) log) (take (32 * n) part) p.1)

  pub keeps-entries : keeps_first n log k part ≡ true → entry_place n ≤ length log → 32 * k ≤ length part → entries n log ≡ entries n part
  keeps-entries h g f =
      let p = keeps-prefix h in
      sym (cells-taken 32 entry_of encode_entry EntryFits entry-codec n log (omega (arith, place-long n)))
      ∙ rw p.1 (cells-taken 32 entry_of encode_entry EntryFits entry-codec n part (omega (arith, p.0)))

  pub prefix-keeps : n ≤ k → take (32 * n) log ≡ take (32 * n) part → keeps_first n log k part ≡ true
  prefix-keeps h e = keeps-long h ∙ rw e (same_refl (take (32 * n) part))
