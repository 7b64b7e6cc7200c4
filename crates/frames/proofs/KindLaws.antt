-- Laws of the kinds and of a well-formed frame.
--     each-kind      what holds of each of the eleven kinds holds of every number from 1 to 11
--     each-number    and of the number of every kind
--     no-kind        a number that is none of the eleven's is not from 1 to 11
--     same-kind, other-kind    kinds of one number are one kind, and others have another number
--     same-number, is-kind, not-kind    so the code's tests of equality are those of the numbers
--     kind-within, kind-low, kind-high    a kind's number is 1 to 11
--     some-kind      a kind is there exactly where the test is passed
--     least-room     the fields take at least `fields_end` bytes
--     head-long      a frame whose head is right has 7 bytes
--     well-formed, formed    a frame is well formed exactly where it keeps these facts
-- Assumes nothing.
use Rattle.std.specs.Prelude.{Option, Some, None}
use Rattle.std.specs.Option.{is_some}
use mathlib.Core.Path.{◌≡◌, refl, subst, sym, ap, ◌∙◌}
use mathlib.Core.Logic.{⊎_elim}
use mathlib.Core.Bool.{Bool, true, false}
use mathlib.Core.List.{List, [], ◌∷◌}
use Prim.Native.Nat.{ℕ, ◌+◌, ◌*◌, ◌≤◌}
use native.Mathlib.Nat.{le_refl, eq-or-lt_of_le}
use native.Mathlib.Omega.{arith}
use borrow.Author.Tests.{leb-true, eqb-true, le-leb, eq-eqb, ne_eqb}
use lib.Dec.{leb, eqb, lit≤}
use lib.ListN.{length, drop, get_or}
use Rattle.numbers.specs.Words.{when◌then◌else◌, ◌and◌}
use Rattle.numbers.specs.Numbers.{num, within}
use Rattle.numbers.proofs.WordLaws.{split, and_both}
use Rattle.numbers.proofs.NumberLaws.{within_both, both-within}
use Rattle.entries.specs.Entries.{entries_ok}
use Rattle.frames.specs.Kinds.{kind_number, KindIf, fields_end, room_of, fields_ok, count_of, head_ok, body_ok, well_formed}
use denote.Enum.Bare.{sameb, same_true, same_false}
use Rattle.frames.specs.contracts.Kind.{the_type}
use Rattle.frames.specs.declared.Kind.{Kind}
use Rattle.frames.specs.declared.Kind.TheVariants.{Request, Prepare, PrepareOk, Commit, GetState, NewState, StartViewChange, DoViewChange, StartView, Recovery, RecoveryResponse}

-- the eleven facts, by the number of their kind
pub record Each (P : ℕ → Type 0) : Type 0 where
  pub k1 : P 1
  pub k2 : P 2
  pub k3 : P 3
  pub k4 : P 4
  pub k5 : P 5
  pub k6 : P 6
  pub k7 : P 7
  pub k8 : P 8
  pub k9 : P 9
  pub k10 : P 10
  pub k11 : P 11

-- a fact of n, or of what is further up
from : (P : ℕ → Type 0) (n : ℕ) {k : ℕ} → P n → (n + 1 ≤ k → P k) → n ≤ k → P k
from P n p q h = ⊎_elim (λ e. subst P e p) (λ l. q (omega arith)) (eq-or-lt_of_le h)

pub each-kind : (P : ℕ → Type 0) → Each P → (k : ℕ) → 1 ≤ k → k ≤ 11 → P k
each-kind P e k l h =
    from P 1 e.k1 (from P 2 e.k2 (from P 3 e.k3 (from P 4 e.k4 (from P 5 e.k5 (from P 6 e.k6 (from P 7 e.k7 (from P 8 e.k8
    (from P 9 e.k9 (from P 10 e.k10 (from P 11 e.k11 (λ g. absurd (omega arith)))))))))))) l

pub kind-within : (kind : Kind) → within 1 11 (kind_number kind) ≡ true
unfolding within ◌and◌
kind-within Request = refl
kind-within Prepare = refl
kind-within PrepareOk = refl
kind-within Commit = refl
kind-within GetState = refl
kind-within NewState = refl
kind-within StartViewChange = refl
kind-within DoViewChange = refl
kind-within StartView = refl
kind-within Recovery = refl
kind-within RecoveryResponse = refl

pub kind-low : (kind : Kind) → 1 ≤ kind_number kind
kind-low kind = (within_both 1 11 (kind_number kind) (kind-within kind)).0

pub kind-high : (kind : Kind) → kind_number kind ≤ 11
kind-high kind = (within_both 1 11 (kind_number kind) (kind-within kind)).1

-- one number up
up : {n k : ℕ} → n ≤ k → (k ≡ n → ⊥) → n + 1 ≤ k
up h e = omega arith

pub no-kind : (k : ℕ)
    → (k ≡ 1 → ⊥) → (k ≡ 2 → ⊥) → (k ≡ 3 → ⊥) → (k ≡ 4 → ⊥) → (k ≡ 5 → ⊥) → (k ≡ 6 → ⊥) → (k ≡ 7 → ⊥) → (k ≡ 8 → ⊥) → (k ≡ 9 → ⊥) → (k ≡ 10 → ⊥) → (k ≡ 11 → ⊥)
    → within 1 11 k ≡ false
no-kind k a1 a2 a3 a4 a5 a6 a7 a8 a9 a10 a11 = go (within 1 11 k) refl
  where
    go : (b : Bool) → within 1 11 k ≡ b → within 1 11 k ≡ false
    go false e = e
    go true e =
        let w = within_both 1 11 k e in
        let high : 12 ≤ k = up (up (up (up (up (up (up (up (up (up (up w.0 a1) a2) a3) a4) a5) a6) a7) a8) a9) a10) a11 in
        absurd (omega (arith, w.1, high))

pub each-number : (P : ℕ → Type 0) → Each P → (kind : Kind) → P (kind_number kind)
each-number P e kind = each-kind P e (kind_number kind) (kind-low kind) (kind-high kind)

-- a number's kind
kind_at : ℕ → Kind
kind_at k = get_or (Request ∷ Request ∷ Prepare ∷ PrepareOk ∷ Commit ∷ GetState ∷ NewState ∷ StartViewChange ∷ DoViewChange ∷ StartView ∷ Recovery ∷ RecoveryResponse ∷ []) k Request

kind-back : (kind : Kind) → kind_at (kind_number kind) ≡ kind
unfolding kind_at
kind-back Request = refl
kind-back Prepare = refl
kind-back PrepareOk = refl
kind-back Commit = refl
kind-back GetState = refl
kind-back NewState = refl
kind-back StartViewChange = refl
kind-back DoViewChange = refl
kind-back StartView = refl
kind-back Recovery = refl
kind-back RecoveryResponse = refl

pub same-kind : (a b : Kind) → kind_number a ≡ kind_number b → a ≡ b
same-kind a b e = sym (kind-back a) ∙ ap kind_at e ∙ kind-back b

pub other-kind : {a b : Kind} → (a ≡ b → ⊥) → eqb (kind_number a) (kind_number b) ≡ false
other-kind {a} {b} h = ne_eqb (kind_number a) (kind_number b) (λ e. h (same-kind a b e))

-- the code's test of equality
pub same-number : (a b : Kind) → sameb the_type a b ≡ eqb (kind_number a) (kind_number b)
same-number a b = go (sameb the_type a b) refl
  where
    go : (x : Bool) → sameb the_type a b ≡ x → sameb the_type a b ≡ eqb (kind_number a) (kind_number b)
    go true e = e ∙ sym (eq-eqb (kind_number a) (kind_number b) (ap kind_number (same_true the_type tt a b e)))
    go false e = e ∙ sym (other-kind (same_false the_type a b e))

pub is-kind : (a b : Kind) {x : Bool} → x ≡ sameb the_type a b → x ≡ true → a ≡ b
is-kind a b e t = same_true the_type tt a b (sym e ∙ t)

pub not-kind : (a b : Kind) {x : Bool} → x ≡ sameb the_type a b → x ≡ false → eqb (kind_number a) (kind_number b) ≡ false
not-kind a b e t = sym (same-number a b) ∙ sym e ∙ t

pub some-kind : (b : Bool) (k : ℕ) (r : Option Kind) → KindIf b k r → is_some r ≡ b
some-kind b k None e = sym e
some-kind b k (Some kind) e = sym e.0

pub least-room : (k : ℕ) (s : List ℕ) → fields_end k ≤ room_of k s
unfolding room_of
least-room k s =
    split (λ (x : ℕ). fields_end k ≤ x) (eqb k 11) (when eqb (num 1 20 s) 1 then 29 else 21) (fields_end k)
    (λ e. rw (eqb-true k 11 e) (split (λ (x : ℕ). 21 ≤ x) (eqb (num 1 20 s) 1) 29 21 (λ f. lit≤ tt) (λ f. lit≤ tt)))
    (λ e. le_refl (fields_end k))

pub head-long : (s : List ℕ) → head_ok s ≡ true → 7 ≤ length s
unfolding head_ok
head-long s h = leb-true 7 (length s) (and_both (leb 7 (length s)) (eqb (num 4 0 s + 4) (length s) and eqb (num 1 4 s) 1) h).0

-- what a well-formed frame keeps, fact by fact
pub record WellFormed (s : List ℕ) : Type 0 where
  pub long : 7 ≤ length s
  pub size : num 4 0 s + 4 ≡ length s
  pub version : num 1 4 s ≡ 1
  pub low : 1 ≤ num 1 5 s
  pub high : num 1 5 s ≤ 11
  pub fields : fields_ok (num 1 5 s) s ≡ true
  pub exact : length s ≡ room_of (num 1 5 s) s + 32 * count_of (num 1 5 s) s
  pub log : entries_ok (count_of (num 1 5 s) s) (drop (room_of (num 1 5 s) s) s) ≡ true

pub well-formed : (s : List ℕ) → well_formed s ≡ true → WellFormed s
unfolding well_formed head_ok body_ok
well-formed s h =
    let k = num 1 5 s in
    let l = entries_ok (count_of k s) (drop (room_of k s) s) in
    let x = eqb (length s) (room_of k s + 32 * count_of k s) in
    let p = and_both (head_ok s) (body_ok k s) h in
    let q = and_both (within 1 11 k) (fields_ok k s and x and l) p.1 in
    let r = and_both (fields_ok k s) (x and l) q.1 in
    let t = and_both x l r.1 in
    let w = within_both 1 11 k q.0 in
    let a = and_both (leb 7 (length s)) (eqb (num 4 0 s + 4) (length s) and eqb (num 1 4 s) 1) p.0 in
    let b = and_both (eqb (num 4 0 s + 4) (length s)) (eqb (num 1 4 s) 1) a.1 in
    record {
      long = leb-true 7 (length s) a.0;
      size = eqb-true (num 4 0 s + 4) (length s) b.0;
      version = eqb-true (num 1 4 s) 1 b.1;
      low = w.0;
      high = w.1;
      fields = r.0;
      exact = eqb-true (length s) (room_of k s + 32 * count_of k s) t.0;
      log = t.1;
    }

pub formed : (s : List ℕ) → WellFormed s → well_formed s ≡ true
unfolding well_formed head_ok body_ok ◌and◌
formed s f =
    rw (
      le-leb 7 (length s) f.long,
      eq-eqb (num 4 0 s + 4) (length s) f.size,
      eq-eqb (num 1 4 s) 1 f.version,
      both-within 1 11 (num 1 5 s) f.low f.high,
      f.fields,
      eq-eqb (length s) (room_of (num 1 5 s) s + 32 * count_of (num 1 5 s) s) f.exact,
      f.log,
    )
