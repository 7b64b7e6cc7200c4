-- The rows of a table: the header and the rows of entries that can be sent are what says something in each field.
--     header_row, entry_row        contents that say something are the header's words, or the fields of an entry that can be sent
--     header-fields, entry-fields  and these do
-- Assumes nothing.
use mathlib.Core.Path.{◌≡◌, refl, sym, ap, ◌∙◌, subst}
use mathlib.Core.List.{List, [], ◌∷◌}
use Prim.Native.Nat.{ℕ, suc}
use native.Mathlib.Nat.{suc_inj}
use native.Mathlib.Omega.{arith}
use lib.ListN.{length, get_or, set}
use Rattle.entries.specs.Entries.{Sendable}
use Rattle.entries.specs.declared.Entry.{Entry}
use Rattle.std.specs.Prelude.{Some}
use Rattle.decimal.proofs.DecimalLaws.{number-of-decimal, number-there}
use Rattle.csv_table.specs.Table.{header_words, entry_fields}
use Rattle.csv_table.specs.Fields.{sense}
use Rattle.csv_table.specs.Reading.{no_values, entry_of_values}
use Rattle.csv_table.proofs.TextLaws.{other, past}
use Rattle.csv_table.proofs.SenseLaws.{header-says, header-said, op-says, op-said, kind-says, kind-said, cents-says, cents-said, cents-most, sense-header, sense-op, sense-client, sense-request, sense-kind, sense-member, sense-cents}
use Rattle.csv_table.proofs.RowLaws.{SaysAll, put_all}

-- ---- six fields

-- contents that say something, the first taken off
record Cons (n i k : ℕ) (vs : List ℕ) (fs : List (List ℕ)) (ws : List ℕ) : Type 0 where
  f : List ℕ
  gs : List (List ℕ)
  w : ℕ
  us : List ℕ
  fs-are : fs ≡ f ∷ gs
  ws-are : ws ≡ w ∷ us
  says : sense i k (get_or vs 3 0) f ≡ Some w
  count : length gs ≡ n
  others : SaysAll i (suc k) (set vs k w) gs us

cons : (n i k : ℕ) (vs : List ℕ) (fs : List (List ℕ)) (ws : List ℕ) → length fs ≡ suc n → SaysAll i k vs fs ws → Cons n i k vs fs ws
unfolding SaysAll
cons n i k vs [] ws e s = absurd (other 0 (suc n) (omega arith) e)
cons n i k vs (f ∷ fs) [] e s = absurd s
cons n i k vs (f ∷ fs) (w ∷ ws) e s =
    record { f = f; gs = fs; w = w; us = ws; fs-are = refl; ws-are = refl; says = s.0; count = suc_inj e; others = s.1 }

none : (i k : ℕ) (vs : List ℕ) (fs : List (List ℕ)) (ws : List ℕ) → length fs ≡ 0 → SaysAll i k vs fs ws → (fs ≡ []) × (ws ≡ [])
unfolding SaysAll
none i k vs [] [] e s = (refl, refl)
none i k vs [] (w ∷ ws) e s = absurd s
none i k vs (f ∷ fs) ws e s = absurd (past (suc (length fs)) 0 (omega arith) e)

-- the six of a row, where o is the operation that the fourth says
record Six (i : ℕ) (fs : List (List ℕ)) (ws : List ℕ) : Type 0 where
  c0 : Cons 5 i 0 no_values fs ws
  c1 : Cons 4 i 1 (c0.w ∷ 0 ∷ 0 ∷ 0 ∷ 0 ∷ 0 ∷ []) c0.gs c0.us
  c2 : Cons 3 i 2 (c0.w ∷ c1.w ∷ 0 ∷ 0 ∷ 0 ∷ 0 ∷ []) c1.gs c1.us
  c3 : Cons 2 i 3 (c0.w ∷ c1.w ∷ c2.w ∷ 0 ∷ 0 ∷ 0 ∷ []) c2.gs c2.us
  c4 : Cons 1 i 4 (c0.w ∷ c1.w ∷ c2.w ∷ c3.w ∷ 0 ∷ 0 ∷ []) c3.gs c3.us
  c5 : Cons 0 i 5 (c0.w ∷ c1.w ∷ c2.w ∷ c3.w ∷ c4.w ∷ 0 ∷ []) c4.gs c4.us
  fs-is : fs ≡ c0.f ∷ c1.f ∷ c2.f ∷ c3.f ∷ c4.f ∷ c5.f ∷ []
  ws-is : ws ≡ c0.w ∷ c1.w ∷ c2.w ∷ c3.w ∷ c4.w ∷ c5.w ∷ []

six : (i : ℕ) (fs : List (List ℕ)) (ws : List ℕ) → length fs ≡ 6 → SaysAll i 0 no_values fs ws → Six i fs ws
six i fs ws e s =
    let a = cons 5 i 0 no_values fs ws e s in
    let b = cons 4 i 1 _ a.gs a.us a.count a.others in
    let c = cons 3 i 2 _ b.gs b.us b.count b.others in
    let d = cons 2 i 3 _ c.gs c.us c.count c.others in
    let g = cons 1 i 4 _ d.gs d.us d.count d.others in
    let h = cons 0 i 5 _ g.gs g.us g.count g.others in
    let z = none i 6 _ h.gs h.us h.count h.others in
    record {
      c0 = a;
      c1 = b;
      c2 = c;
      c3 = d;
      c4 = g;
      c5 = h;
      fs-is =
          a.fs-are ∙ ap (λ (y : List (List ℕ)). a.f ∷ y) (b.fs-are ∙ ap (λ (y : List (List ℕ)). b.f ∷ y) (c.fs-are ∙ ap (λ (y : List (List ℕ)). c.f ∷ y)
          (d.fs-are ∙ ap (λ (y : List (List ℕ)). d.f ∷ y) (g.fs-are ∙ ap (λ (y : List (List ℕ)). g.f ∷ y) (h.fs-are ∙ ap (λ (y : List (List ℕ)). h.f ∷ y) z.0)))));
      ws-is =
          a.ws-are ∙ ap (λ (y : List ℕ). a.w ∷ y) (b.ws-are ∙ ap (λ (y : List ℕ). b.w ∷ y) (c.ws-are ∙ ap (λ (y : List ℕ). c.w ∷ y)
          (d.ws-are ∙ ap (λ (y : List ℕ). d.w ∷ y) (g.ws-are ∙ ap (λ (y : List ℕ). g.w ∷ y) (h.ws-are ∙ ap (λ (y : List ℕ). h.w ∷ y) z.1)))));
    }

-- ---- the header

pub header_row : (fs : List (List ℕ)) (ws : List ℕ) → length fs ≡ 6 → SaysAll 0 0 no_values fs ws → fs ≡ header_words
unfolding header_words
header_row fs ws e s =
    let x = six 0 fs ws e s in
    x.fs-is ∙ (λ j. word 0 x.c0.f x.c0.w 0 x.c0.says j ∷ word 1 x.c1.f x.c1.w 0 x.c1.says j ∷ word 2 x.c2.f x.c2.w 0 x.c2.says j
    ∷ word 3 x.c3.f x.c3.w 0 x.c3.says j ∷ word 4 x.c4.f x.c4.w x.c3.w x.c4.says j
    ∷ word 5 x.c5.f x.c5.w x.c3.w x.c5.says j ∷ [])
  where
    word : (k : ℕ) (f : List ℕ) (w o : ℕ) → sense 0 k o f ≡ Some w → f ≡ get_or header_words k []
    word k f w o h = header-says k w f (sym (sense-header k o f) ∙ h)

pub header-fields : SaysAll 0 0 no_values header_words (0 ∷ 0 ∷ 0 ∷ 0 ∷ 0 ∷ 0 ∷ [])
unfolding SaysAll header_words
header-fields =
    (word 0, (word 1, (word 2, (word 3, (word 4, (word 5, tt))))))
  where
    word : (k : ℕ) → sense 0 k 0 (get_or header_words k []) ≡ Some 0
    word k = sense-header k 0 (get_or header_words k []) ∙ header-said k

-- ---- an entry

-- what six contents of an entry's row are
record Made (i : ℕ) (fs : List (List ℕ)) (e : Entry) : Type 0 where
  row : fs ≡ entry_fields (suc i) e
  sendable : Sendable e

made : (i : ℕ) (fs : List (List ℕ)) (ws : List ℕ) (x : Six (suc i) fs ws)
    → Made i fs (record { client = x.c1.w; request = x.c2.w; operation = x.c3.w; member = x.c4.w; cents = x.c5.w })
unfolding entry_fields
made i fs ws x =
    let op = op-says (suc i) x.c0.w x.c0.f (sym (sense-op i 0 x.c0.f) ∙ x.c0.says) in
    let client = number-there _ x.c1.w x.c1.f (sym (sense-client i 0 x.c1.f) ∙ x.c1.says) in
    let request = number-there _ x.c2.w x.c2.f (sym (sense-request i 0 x.c2.f) ∙ x.c2.says) in
    let kind = kind-says x.c3.f x.c3.w (sym (sense-kind i 0 x.c3.f) ∙ x.c3.says) in
    let member = number-there _ x.c4.w x.c4.f (sym (sense-member i x.c3.w x.c4.f) ∙ x.c4.says) in
    let cents = cents-says x.c3.w x.c5.w x.c5.f (sym (sense-cents i x.c3.w x.c5.f) ∙ x.c5.says) in
    record {
      row = x.fs-is ∙ (λ j. op j ∷ client.0 j ∷ request.0 j ∷ kind.0 j ∷ member.0 j ∷ cents.0 j ∷ []);
      sendable = record {
        fits = record {
          client = omega (arith, client.1);
          request = omega (arith, request.1);
          operation = omega (arith, kind.1);
          member = omega (arith, member.1);
          cents = omega (arith, cents-most x.c3.w x.c5.w cents.1);
        };
        ok = cents.1;
      };
    }

pub entry_row : (i : ℕ) (fs : List (List ℕ)) (ws : List ℕ) → length fs ≡ 6 → SaysAll (suc i) 0 no_values fs ws
    → (fs ≡ entry_fields (suc i) (entry_of_values (put_all no_values 0 ws))) × Sendable (entry_of_values (put_all no_values 0 ws))
entry_row i fs ws e s =
    let x = six (suc i) fs ws e s in
    let m = made i fs ws x in
    subst (λ (us : List ℕ). (fs ≡ entry_fields (suc i) (entry_of_values (put_all no_values 0 us))) × Sendable (entry_of_values (put_all no_values 0 us)))
    (sym x.ws-is) (m.row, m.sendable)

pub entry-fields : (i : ℕ) (e : Entry) → Sendable e
    → SaysAll (suc i) 0 no_values (entry_fields (suc i) e) (suc i ∷ e.client ∷ e.request ∷ e.operation ∷ e.member ∷ e.cents ∷ [])
unfolding SaysAll entry_fields
entry-fields i e k =
    let client = number-of-decimal 18446744073709551615 e.client (omega (arith, k.fits.client)) in
    let request = number-of-decimal 18446744073709551615 e.request (omega (arith, k.fits.request)) in
    let kind = kind-said e.operation e.cents k.ok in
    let member = number-of-decimal 4294967295 e.member (omega (arith, k.fits.member)) in
    let cents = cents-said e.operation e.cents k.ok in (
      sense-op i 0 _ ∙ op-said (suc i),
      (
        sense-client i 0 _ ∙ client,
        (sense-request i 0 _ ∙ request, (sense-kind i 0 _ ∙ kind, (sense-member i e.operation _ ∙ member, (sense-cents i e.operation _ ∙ cents, tt)))),
      ),
    )
