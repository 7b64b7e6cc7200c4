-- What a content says, and the content that says it.
--     header-says, op-says, number-says, kind-says, cents-says     what says something is the word or the number in decimal
--     header-said, op-said, number-said, kind-said, cents-said     and these say it
--     sense-text                   what says something is text of a plain field, one byte or more
--     decimal-text, kind-text      numbers in decimal and words are
-- Assumes nothing.
use mathlib.Core.Path.{◌≡◌, refl, sym, ap, ◌∙◌, subst}
use mathlib.Core.Bool.{Bool, true, false, false≢true}
use mathlib.Core.List.{List, [], ◌∷◌}
use mathlib.Core.Logic.{⊎_elim}
use Prim.Native.Nat.{ℕ, zero, suc, ◌≤◌, ◌<◌}
use native.Mathlib.Nat.{le_refl}
use native.Mathlib.Omega.{arith}
use lib.Dec.{eqb, leb}
use lib.ListN.{length, get_or}
use lib.Pointwise.{bytes_decides}
use borrow.Author.Tests.{eqb-true, eq-eqb, ne_eqb, leb-true, le-leb}
use Rattle.numbers.specs.Words.{when◌then◌else◌, ◌and◌}
use Rattle.numbers.specs.Numbers.{within}
use Rattle.numbers.proofs.WordLaws.{split, if-false, and_both, and-true}
use Rattle.numbers.proofs.NumberLaws.{eq-or-not}
use Rattle.entries.specs.Entries.{operation_ok}
use Rattle.std.specs.Prelude.{Option, Some, None, option_and_then}
use Rattle.std.specs.Bool.{then_some}
use Rattle.std.proofs.lemmas.Option.{none-some}
use Rattle.decimal.specs.Decimal.{decimal, all_figures, number_in}
use Rattle.decimal.proofs.DecimalLaws.{decimal-figures, decimal-there, number-of-decimal, number-there}
use Rattle.csv_table.proofs.Views.{some-value}
use Rattle.csv_table.specs.Rows.{quote, comma, is_text, all_of}
use Rattle.csv_table.specs.Table.{header_words, kind_word}
use Rattle.csv_table.specs.Fields.{same, row_op_in, kind_in, cents_in, header_in, sense}

-- ---- a test of what is there

only-then : (b : Bool) (x y : ℕ) → then_some b x ≡ Some y → (b ≡ true) × (x ≡ y)
only-then true x y h = (refl, some-value x y h)
only-then false x y h = absurd (none-some y h)

filtered : (p : ℕ → Bool) (v : ℕ) (o : Option ℕ) → option_and_then (λ n. then_some (p n) n) o ≡ Some v → (o ≡ Some v) × (p v ≡ true)
filtered p v None h = absurd (none-some v h)
filtered p v (Some x) h =
    let q = only-then (p x) x v h in
    (ap Some q.1, sym (ap p q.1) ∙ q.0)

-- ---- each field

pub header-says : (k v : ℕ) (f : List ℕ) → header_in k f ≡ Some v → f ≡ get_or header_words k []
unfolding header_in
header-says k v f h = (bytes_decides f (get_or header_words k [])).0 (only-then _ 0 v h).0

pub header-said : (k : ℕ) → header_in k (get_or header_words k []) ≡ Some 0
unfolding header_in
header-said k = ap (λ (b : Bool). then_some b 0) ((bytes_decides (get_or header_words k []) (get_or header_words k [])).1 refl)

pub op-says : (i v : ℕ) (f : List ℕ) → row_op_in i f ≡ Some v → f ≡ decimal i
unfolding row_op_in
op-says i v f h =
    let p = filtered (λ (n : ℕ). eqb n i) v (number_in i f) h in
    (number-there i v f p.0).0 ∙ ap decimal (eqb-true v i p.1)

pub op-said : (i : ℕ) → row_op_in i (decimal i) ≡ Some i
unfolding row_op_in
op-said i =
    ap (option_and_then (λ n. then_some (eqb n i) n)) (number-of-decimal i i (le_refl i)) ∙ ap (λ (b : Bool). then_some b i) (eq-eqb i i refl)

pub kind-says : (f : List ℕ) (v : ℕ) → kind_in f ≡ Some v → (f ≡ kind_word v) × (v ≤ 3)
unfolding kind_in
kind-says f v =
    split P _ _ _ (is 1 (omega arith)) λ _.
    split P _ _ _ (is 2 (omega arith)) λ _.
    split P _ _ _ (is 3 (omega arith)) (λ _ h. absurd (none-some v h))
  where
    P : Option ℕ → Type 0
    P n = n ≡ Some v → (f ≡ kind_word v) × (v ≤ 3)

    is : (k : ℕ) → k ≤ 3 → same f (kind_word k) ≡ true → P (Some k)
    is k l e h =
        let q : k ≡ v = some-value k v h in
        ((bytes_decides f (kind_word k)).0 e ∙ ap kind_word q, omega arith)

-- an operation that the entry rules know
known : (o c : ℕ) → operation_ok o c ≡ true → (P : ℕ → Type 0) → P 1 → P 2 → P 3 → P o
unfolding operation_ok when◌then◌else◌
known o c h P p q r =
    ⊎_elim (λ e. subst P (sym e) p) (λ a.
    ⊎_elim (λ e. subst P (sym e) q) (λ b.
    ⊎_elim (λ e. subst P (sym e) r) (λ d. absurd (false≢true (rw (ne_eqb o 1 a, ne_eqb o 2 b, ne_eqb o 3 d) at h)))
    (eq-or-not o 3)) (eq-or-not o 2)) (eq-or-not o 1)

pub kind-said : (o c : ℕ) → operation_ok o c ≡ true → kind_in (kind_word o) ≡ Some o
unfolding kind_in kind_word when◌then◌else◌ ◌and◌
kind-said o c h = known o c h (λ (k : ℕ). kind_in (kind_word k) ≡ Some k) refl refl refl

pub cents-most : (o c : ℕ) → operation_ok o c ≡ true → c ≤ 1000000
unfolding operation_ok when◌then◌else◌ within
cents-most o c h =
    known o c h (λ (k : ℕ). operation_ok k c ≡ true → c ≤ 1000000) (λ g. leb-true c 1000000 (and_both _ _ g).1) (λ g. leb-true c 1000000 (and_both _ _ g).1)
    (λ g. omega (arith, eqb-true c 0 g)) h

pub cents-says : (o v : ℕ) (f : List ℕ) → cents_in o f ≡ Some v → (f ≡ decimal v) × (operation_ok o v ≡ true)
unfolding cents_in
cents-says o v f h =
    let p = filtered (operation_ok o) v (number_in 1000000 f) h in
    ((number-there 1000000 v f p.0).0, p.1)

pub cents-said : (o c : ℕ) → operation_ok o c ≡ true → cents_in o (decimal c) ≡ Some c
unfolding cents_in
cents-said o c h =
    ap (option_and_then (λ n. then_some (operation_ok o n) n)) (number-of-decimal 1000000 c (cents-most o c h)) ∙ ap (λ (b : Bool). then_some b c) h

-- ---- text

figure-text : (b : ℕ) → within 48 57 b ≡ true → is_text b ≡ true
unfolding is_text within ◌and◌
figure-text b h =
    let p = and_both (leb 48 b) (leb b 57) h in
    let l = leb-true 48 b p.0 in
    let m = leb-true b 57 p.1 in
    rw (le-leb 32 b (omega arith), le-leb b 126 (omega arith), ne_eqb b quote (λ e. omega arith), ne_eqb b comma (λ e. omega arith))

figures-text : (s : List ℕ) → all_figures s ≡ true → all_of is_text s ≡ true
unfolding all_figures all_of
figures-text [] h = refl
figures-text (b ∷ s) h =
    let p = and_both (within 48 57 b) (all_figures s) h in
    and-true _ _ (figure-text b p.0) (figures-text s p.1)

-- text of a plain field, one byte or more
pub record Some-text (f : List ℕ) : Type 0 where
  pub text : all_of is_text f ≡ true
  pub some : 1 ≤ length f

pub decimal-text : (n : ℕ) → Some-text (decimal n)
decimal-text n = record { text = figures-text (decimal n) (decimal-figures n); some = decimal-there n }

pub kind-text : (o : ℕ) → Some-text (kind_word o)
unfolding kind_word all_of is_text within ◌and◌
kind-text o =
    split Some-text _ _ _ (λ _. record { text = refl; some = omega arith }) λ _.
    split Some-text _ _ _ (λ _. record { text = refl; some = omega arith }) (λ _. record { text = refl; some = omega arith })

past-six : (k : ℕ) → suc (suc (suc (suc (suc (suc k))))) < 6 → ⊥
past-six k p = omega arith

pub header-text : (k : ℕ) → k < 6 → Some-text (get_or header_words k [])
unfolding header_words all_of is_text within ◌and◌
header-text zero h = record { text = refl; some = omega arith }
header-text (suc zero) h = record { text = refl; some = omega arith }
header-text (suc (suc zero)) h = record { text = refl; some = omega arith }
header-text (suc (suc (suc zero))) h = record { text = refl; some = omega arith }
header-text (suc (suc (suc (suc zero)))) h = record { text = refl; some = omega arith }
header-text (suc (suc (suc (suc (suc zero))))) h = record { text = refl; some = omega arith }
header-text (suc (suc (suc (suc (suc (suc k)))))) h = absurd (past-six k h)

number-text : (most v : ℕ) (f : List ℕ) → number_in most f ≡ Some v → Some-text f
number-text most v f h = subst Some-text (sym (number-there most v f h).0) (decimal-text v)

-- what each field of the row of an entry says
module _ (i o : ℕ) (f : List ℕ) where
  no_header : eqb (suc i) 0 ≡ false
  no_header = ne_eqb (suc i) 0 (λ e. omega arith)

  pub sense-op : sense (suc i) 0 o f ≡ row_op_in (suc i) f
  unfolding sense when◌then◌else◌
  sense-op = if-false _ _ _ no_header

  pub sense-client : sense (suc i) 1 o f ≡ number_in 18446744073709551615 f
  unfolding sense when◌then◌else◌
  sense-client = if-false _ _ _ no_header

  pub sense-request : sense (suc i) 2 o f ≡ number_in 18446744073709551615 f
  unfolding sense when◌then◌else◌
  sense-request = if-false _ _ _ no_header

  pub sense-kind : sense (suc i) 3 o f ≡ kind_in f
  unfolding sense when◌then◌else◌
  sense-kind = if-false _ _ _ no_header

  pub sense-member : sense (suc i) 4 o f ≡ number_in 4294967295 f
  unfolding sense when◌then◌else◌
  sense-member = if-false _ _ _ no_header

  pub sense-cents : sense (suc i) 5 o f ≡ cents_in o f
  unfolding sense when◌then◌else◌
  sense-cents = if-false _ _ _ no_header

pub sense-header : (k o : ℕ) (f : List ℕ) → sense 0 k o f ≡ header_in k f
unfolding sense when◌then◌else◌
sense-header k o f = refl

pub sense-text : (i k o v : ℕ) (f : List ℕ) → k < 6 → sense i k o f ≡ Some v → Some-text f
sense-text zero k o v f l h = subst Some-text (sym (header-says k v f (sym (sense-header k o f) ∙ h))) (header-text k l)
sense-text (suc i) zero o v f l h = subst Some-text (sym (op-says (suc i) v f (sym (sense-op i o f) ∙ h))) (decimal-text (suc i))
sense-text (suc i) (suc zero) o v f l h = number-text 18446744073709551615 v f (sym (sense-client i o f) ∙ h)
sense-text (suc i) (suc (suc zero)) o v f l h = number-text 18446744073709551615 v f (sym (sense-request i o f) ∙ h)
sense-text (suc i) (suc (suc (suc zero))) o v f l h = subst Some-text (sym (kind-says f v (sym (sense-kind i o f) ∙ h)).0) (kind-text v)
sense-text (suc i) (suc (suc (suc (suc zero)))) o v f l h = number-text 4294967295 v f (sym (sense-member i o f) ∙ h)
sense-text (suc i) (suc (suc (suc (suc (suc zero))))) o v f l h = subst Some-text (sym (cents-says o v f (sym (sense-cents i o f) ∙ h)).0) (decimal-text v)
sense-text (suc i) (suc (suc (suc (suc (suc (suc k)))))) o v f l h = absurd (past-six k l)
