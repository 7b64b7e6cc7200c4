-- Laws of a row as export writes it.
--     wrote-lend                             two writers, the second on the part behind what the first wrote
--     fee-word, refund-word, ask-word        the word of each operation; refund-long, other-long: its length
--     front-parts, back-parts, row-parts     a row's halves and a row are their parts, one behind the other
--     front_long, back_long, row-long        how many bytes these are; front-sizes, back-sizes: with their parts'
--     row-most                               no row has more than 113 bytes
-- Assumes nothing.
use mathlib.Core.Path.{◌≡◌, refl, sym, ap, ◌∙◌}
use mathlib.Core.List.{List, [], ◌∷◌, ◌++◌, append_assoc}
use mathlib.Core.Logic.{⊎_elim}
use Prim.Native.Nat.{ℕ, ◌+◌, ◌-◌, ◌^◌, ◌≤◌, ◌<◌}
use native.Mathlib.Omega.{arith}
use borrow.Author.Tests.{eq-eqb, ne_eqb}
use lib.Dec.{eqb}
use lib.ListN.{length, take, drop, length-append}
use Rattle.numbers.specs.Words.{when◌then◌else◌}
use Rattle.numbers.specs.Numbers.{Wrote}
use Rattle.numbers.proofs.RunLaws.{over-lend}
use Rattle.numbers.proofs.NumberLaws.{eq-or-not}
use Rattle.numbers.proofs.WordLaws.{split}
use Rattle.entries.specs.Entries.{EntryFits}
use Rattle.entries.specs.declared.Entry.{Entry}
use Rattle.decimal.specs.Decimal.{decimal}
use Rattle.decimal.proofs.DecimalLaws.{decimal-short}
use Rattle.csv_table.specs.Rows.{comma, crlf}
use Rattle.csv_table.specs.Table.{kind_word, entry_fields, joined_fields, plain_row, front_of, back_of}

-- ---- one writer behind the other

pub wrote-lend : {cur part : List ℕ} (w e a : List ℕ) (n m : ℕ) → Wrote w a cur n → Wrote e (take (length cur - n) (drop n cur)) part m
    → Wrote (w ++ e) a (take n cur ++ (part ++ drop (length cur - n) (drop n cur))) (n + m)
wrote-lend w e a n m p q =
    record {
      bytes = over-lend w e a n (sym p.count) p.bytes q.bytes;
      count = omega (arith, p.count, q.count, length-append w e);
    }

-- ---- a row

pub fee-word : (k : ℕ) → k ≡ 1 → kind_word k ≡ 102 ∷ 101 ∷ 101 ∷ []
unfolding kind_word when◌then◌else◌
fee-word k p = rw (eq-eqb k 1 p)

pub refund-word : (k : ℕ) → k ≡ 2 → kind_word k ≡ 114 ∷ 101 ∷ 102 ∷ 117 ∷ 110 ∷ 100 ∷ []
unfolding kind_word when◌then◌else◌
refund-word k p = rw (ne_eqb k 1 (λ (e : k ≡ 1). omega arith), eq-eqb k 2 p)

pub ask-word : (k : ℕ) → (k ≡ 1 → ⊥) → (k ≡ 2 → ⊥) → kind_word k ≡ 97 ∷ 115 ∷ 107 ∷ []
unfolding kind_word when◌then◌else◌
ask-word k p q = rw (ne_eqb k 1 p, ne_eqb k 2 q)

pub refund-long : (k : ℕ) → k ≡ 2 → length (kind_word k) ≡ 6
refund-long k p = ap length (refund-word k p)

pub other-long : (k : ℕ) → (k ≡ 2 → ⊥) → length (kind_word k) ≡ 3
unfolding kind_word when◌then◌else◌
other-long k n =
    split (λ (w : List ℕ). length w ≡ 3) (eqb k 1) (102 ∷ 101 ∷ 101 ∷ []) (when eqb k 2 then 114 ∷ 101 ∷ 102 ∷ 117 ∷ 110 ∷ 100 ∷ [] else 97 ∷ 115 ∷ 107 ∷ [])
    (λ e. refl)
    (λ e. rw (ne_eqb k 2 n))

-- a field and its comma, as one part
abbrev pub with_comma : List ℕ → List ℕ
with_comma f = f ++ comma ∷ []

pub comma-long : (f : List ℕ) → length (with_comma f) ≡ length f + 1
comma-long f = length-append f (comma ∷ [])

pub front-parts : (op : ℕ) (e : Entry) → (with_comma (decimal op) ++ with_comma (decimal e.client)) ++ with_comma (decimal e.request) ≡ front_of op e
unfolding front_of
front-parts op e = simp append_assoc

pub back-parts : (e : Entry) → ((with_comma (kind_word e.operation) ++ with_comma (decimal e.member)) ++ decimal e.cents) ++ crlf ≡ back_of e
unfolding back_of
back-parts e = simp append_assoc

pub row-parts : (op : ℕ) (e : Entry) → front_of op e ++ back_of e ≡ plain_row (entry_fields op e)
unfolding front_of back_of plain_row entry_fields joined_fields
row-parts op e = simp append_assoc

pub front_long : (op : ℕ) (e : Entry) → length (front_of op e) ≡ length (decimal op) + length (decimal e.client) + length (decimal e.request) + 3
unfolding front_of
front_long op e = simp length-append (omega arith)

pub back_long : (e : Entry) → length (back_of e) ≡ length (kind_word e.operation) + length (decimal e.member) + length (decimal e.cents) + 4
unfolding back_of
back_long e = simp length-append (omega arith)

-- these lengths, with those of the parts
pub front-sizes : (op : ℕ) (e : Entry)
    → (length (front_of op e) ≡ length (decimal op) + length (decimal e.client) + length (decimal e.request) + 3)
    × (length (with_comma (decimal op)) ≡ length (decimal op) + 1)
    × (length (with_comma (decimal e.client)) ≡ length (decimal e.client) + 1)
    × (length (with_comma (decimal e.request)) ≡ length (decimal e.request) + 1)
front-sizes op e = (front_long op e, comma-long (decimal op), comma-long (decimal e.client), comma-long (decimal e.request))

pub back-sizes : (e : Entry)
    → (length (back_of e) ≡ length (kind_word e.operation) + length (decimal e.member) + length (decimal e.cents) + 4)
    × (length (with_comma (kind_word e.operation)) ≡ length (kind_word e.operation) + 1)
    × (length (with_comma (decimal e.member)) ≡ length (decimal e.member) + 1)
back-sizes e = (back_long e, comma-long (kind_word e.operation), comma-long (decimal e.member))

pub row-long : (op : ℕ) (e : Entry) → length (plain_row (entry_fields op e)) ≡ length (front_of op e) + length (back_of e)
row-long op e = ap length (sym (row-parts op e)) ∙ length-append (front_of op e) (back_of e)

word-most : (k : ℕ) → length (kind_word k) ≤ 6
word-most k = ⊎_elim (λ e. omega (arith, refund-long k e)) (λ e. omega (arith, other-long k e)) (eq-or-not k 2)

pub row-most : (op : ℕ) (e : Entry) → op < 2 ^ 64 → EntryFits e → length (plain_row (entry_fields op e)) ≤ 113
row-most op e l f =
    let fits : e.member < 2 ^ 64 = omega (arith, f.member) in
    omega (
      arith,
      row-long op e,
      front_long op e,
      back_long e,
      word-most e.operation,
      decimal-short op l,
      decimal-short e.client f.client,
      decimal-short e.request f.request,
      decimal-short e.member fits,
      decimal-short e.cents f.cents,
    )
