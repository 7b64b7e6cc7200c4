-- Whether the log still rises with one entry more, by the client table alone: so a Request needs no look over the log.
--     find-put, find-other                   what is found after a row was put
--     Latest, latest-none, latest-more       the table has each client's latest request of the log; each append keeps this
--     unbroken, risen                        two entries that do not break
--     latest-lift                            what the table then says of one entry more
-- Assumes nothing.
use Prim.Native.Nat.{ℕ, ◌≤◌, ◌<◌}
use native.Mathlib.Omega.{arith}
use mathlib.Core.Path.{◌≡◌, refl, ap, sym, ◌∙◌}
use mathlib.Core.Bool.{Bool, true, false, not, false≢true}
use mathlib.Core.List.{List, [], ◌∷◌, ◌++◌}
use mathlib.Core.Logic.{◌⊎◌, inl, inr, ⊎_elim}
use mathlib.Core.Option.{Option}
use lib.Dec.{leb, eqb}
use borrow.Author.Tests.{eqb-true, eqb-false, eq-eqb, ne_eqb, leb-true, leb-false, le-leb, lt-leb, not-true}
use Rattle.numbers.specs.Words.{when◌then◌else◌, ◌and◌}
use Rattle.numbers.proofs.WordLaws.{split, if-true, if-false, and_left, and_right, and-true, and-false, and_yes}
use Rattle.numbers.proofs.NumberLaws.{eq-or-not}
use Rattle.entries.specs.Rising.{breaks_at, follows, rising}
use Rattle.entries.specs.declared.Entry.{Entry}
use Rattle.fees.specs.declared.Outcome.{Outcome}
use Rattle.book.specs.Log.{none_breaks, rises_after}
use Rattle.book.proofs.LogLaws.{rises-after}
use Rattle.model.specs.State.{ClientEntry}
use Rattle.model.specs.Book.{Seen, find, put, entry_row}
use Rattle.model.proofs.LogLift.{rising-front}

-- ---- a row put

pub find-put : (t : List ClientEntry) (r : ClientEntry) → find (put t r) r.client ≡ record { there = true; request = r.request; kept = r.kept }
unfolding put find
find-put [] r = if-true _ _ _ (eq-eqb r.client r.client refl)
find-put (q ∷ qs) r =
    let P : List ClientEntry → Type 0 = λ l. find l r.client ≡ record { there = true; request = r.request; kept = r.kept } in
    let first : (l : List ClientEntry) → P (r ∷ l) = λ l. if-true _ _ _ (eq-eqb r.client r.client refl) in
    split P _ _ _ (λ _. first (q ∷ qs)) λ _.
    split P _ _ _ (λ _. first qs)
    (λ ne. if-false _ _ _ (ne_eqb q.client r.client (λ e. eqb-false r.client q.client ne (sym e))) ∙ find-put qs r)

pub find-other : (t : List ClientEntry) (r : ClientEntry) (c : ℕ) → (r.client ≡ c → ⊥) → find (put t r) c ≡ find t c
unfolding put find
find-other [] r c n = if-false _ _ _ (ne_eqb r.client c n)
find-other (q ∷ qs) r c n =
    let P : List ClientEntry → Type 0 = λ l. find l c ≡ find (q ∷ qs) c in
    split P _ _ _ (λ _. if-false _ _ _ (ne_eqb r.client c n)) λ _.
    split P _ _ _
    (λ eq.
    let h : r.client ≡ q.client = eqb-true _ _ eq in
    if-false _ _ _ (ne_eqb r.client c n) ∙ sym (if-false _ _ _ (ne_eqb q.client c (λ e. n (h ∙ e)))))
    (λ _.
    ap (λ (z : Seen). when eqb q.client c then record { there = true; request = q.request; kept = q.kept } else z) (find-other qs r c n))

-- ---- the table has each client's latest request

-- the entry's client has a row, of the entry's number or a later one
abbrev pub Known : List ClientEntry → Entry → Type 0
Known t e = ((find t e.client).there ≡ true) × (e.request ≤ (find t e.client).request)

abbrev pub AllKnown : List ClientEntry → List Entry → Type 0
AllKnown t [] = Unit
AllKnown t (e ∷ es) = Known t e × AllKnown t es

-- there is an entry of client c and number r
abbrev pub Among : (c r : ℕ) → List Entry → Type 0
Among c r [] = ⊥
Among c r (e ∷ es) = ((e.client ≡ c) × (e.request ≡ r)) ⊎ Among c r es

pub record Latest (t : List ClientEntry) (es : List Entry) : Type 0 where
  pub known : AllKnown t es
  pub among : (c : ℕ) → (find t c).there ≡ true → Among c (find t c).request es

pub latest-none : Latest [] []
unfolding find
latest-none = record { known = tt; among = λ c p. absurd (false≢true p) }

-- ---- one entry more

among-front : (c r : ℕ) (es fs : List Entry) → Among c r es → Among c r (es ++ fs)
among-front c r [] fs a = absurd a
among-front c r (e ∷ es) fs (inl p) = inl p
among-front c r (e ∷ es) fs (inr a) = inr (among-front c r es fs a)

among-back : (c r : ℕ) (es fs : List Entry) → Among c r fs → Among c r (es ++ fs)
among-back c r [] fs a = a
among-back c r (e ∷ es) fs a = inr (among-back c r es fs a)

module _ (e : Entry) where
  pub unbroken : (x : Entry) → (x.client ≡ e.client → x.request < e.request) → breaks_at x e ≡ false
  unfolding breaks_at ◌and◌
  unbroken x f =
      ⊎_elim (λ p. and-false (eqb x.client e.client) _ (lt-leb e.request x.request (f p)))
      (λ n. rw (ne_eqb x.client e.client n)) (eq-or-not x.client e.client)

  broken : (x : Entry) → x.client ≡ e.client → e.request ≤ x.request → breaks_at x e ≡ true
  unfolding breaks_at
  broken x p h = and-true _ _ (eq-eqb x.client e.client p) (le-leb e.request x.request h)

  pub risen : (x : Entry) → breaks_at x e ≡ false → x.client ≡ e.client → x.request < e.request
  unfolding breaks_at ◌and◌
  risen x b p = leb-false e.request x.request (rw (eq-eqb x.client e.client p) at b)

  module _ (t : List ClientEntry) where
    clear : (es : List Entry) → AllKnown t es → ((find t e.client).there ≡ true → (find t e.client).request < e.request)
        → none_breaks es (e ∷ []) ≡ true
    unfolding none_breaks follows
    clear [] k f = refl
    clear (x ∷ es) k f =
        let b : breaks_at x e ≡ false =
        unbroken x (λ p.
        let h : (find t e.client).there ≡ true = rw (← p) k.0.0 in
        let g : x.request ≤ (find t e.client).request = rw (← p) k.0.1 in
        omega (arith, f h)) in
        and-true _ _ (and-true _ _ (ap not b) refl) (clear es k.1 f)

    stuck : (es : List Entry) (r : ℕ) → Among e.client r es → e.request ≤ r → none_breaks es (e ∷ []) ≡ false
    unfolding none_breaks follows ◌and◌
    stuck [] r a h = absurd a
    stuck (x ∷ es) r (inl p) h = rw (broken x p.0 (omega (arith, p.1)))
    stuck (x ∷ es) r (inr a) h = and-false (follows x (e ∷ [])) _ (stuck es r a h)

    -- by the table, of one entry more
    pub latest-lift : (es : List Entry) → Latest t es → rising es ≡ true
        → rising (es ++ (e ∷ [])) ≡ not ((find t e.client).there and leb e.request (find t e.client).request)
    unfolding rises_after rising follows ◌and◌
    latest-lift es l h = rises-after es (e ∷ []) h ∙ and_yes (none_breaks es (e ∷ [])) ∙ go _ _ refl refl
      where
        go : (a b : Bool) → (find t e.client).there ≡ a → leb e.request (find t e.client).request ≡ b
            → none_breaks es (e ∷ []) ≡ not (a and b)
        go true true p q = stuck es (find t e.client).request (l.among e.client p) (leb-true _ _ q)
        go true false p q = clear es l.known (λ _. leb-false _ _ q)
        go false b p q = clear es l.known (λ r. absurd (false≢true (sym p ∙ r)))

    -- ---- an append keeps it, whatever reply stands in the row

    module _ (o : Option Outcome) where
      found : (c : ℕ) → e.client ≡ c → find (put t (entry_row e o)) c ≡ record { there = true; request = e.request; kept = o }
      unfolding entry_row
      found c p = ap (find (put t (entry_row e o))) (sym p) ∙ find-put t (entry_row e o)

      others : (c : ℕ) → (e.client ≡ c → ⊥) → find (put t (entry_row e o)) c ≡ find t c
      unfolding entry_row
      others c n = find-other t (entry_row e o) c n

      still-known : (x : Entry) → Known t x → breaks_at x e ≡ false → Known (put t (entry_row e o)) x
      still-known x k b =
          ⊎_elim
          (λ p.
          let s = found x.client p in
          let h : x.request < e.request = risen x b (sym p) in
          (ap (λ (z : Seen). z.there) s, omega (arith, ap (λ (z : Seen). z.request) s)))
          (λ n. rw (others x.client n) k)
          (eq-or-not e.client x.client)

      all_known : (es : List Entry) → AllKnown t es → none_breaks es (e ∷ []) ≡ true → AllKnown (put t (entry_row e o)) (es ++ (e ∷ []))
      unfolding none_breaks follows
      all_known [] k h =
          let s = found e.client refl in
          ((ap (λ (z : Seen). z.there) s, omega (arith, ap (λ (z : Seen). z.request) s)), tt)
      all_known (x ∷ es) k h =
          let b : breaks_at x e ≡ false = not-true (breaks_at x e) (and_left _ _ (and_left _ _ h)) in
          (still-known x k.0 b, all_known es k.1 (and_right _ _ h))

      pub latest-more : (es : List Entry) → Latest t es → rising (es ++ (e ∷ [])) ≡ true → Latest (put t (entry_row e o)) (es ++ (e ∷ []))
      unfolding rises_after
      latest-more es l h =
          let n : none_breaks es (e ∷ []) ≡ true = and_left _ _ (sym (rises-after es (e ∷ []) (rising-front es (e ∷ []) h)) ∙ h) in
          record {
            known = all_known es l.known n;
            among = λ c p. ⊎_elim (λ q. mine c q) (λ q. theirs c q p) (eq-or-not e.client c);
          }
        where
          mine : (c : ℕ) → e.client ≡ c → Among c (find (put t (entry_row e o)) c).request (es ++ (e ∷ []))
          mine c q = among-back c _ es (e ∷ []) (inl (q, sym (ap (λ (z : Seen). z.request) (found c q))))

          theirs : (c : ℕ) → (e.client ≡ c → ⊥) → (find (put t (entry_row e o)) c).there ≡ true
              → Among c (find (put t (entry_row e o)) c).request (es ++ (e ∷ []))
          theirs c q p =
              let s = others c q in
              rw s (among-front c _ es (e ∷ []) (l.among c (sym (ap (λ (z : Seen). z.there) s) ∙ p)))
