-- The places of a Reply: the bytes that keep `reply_rule` are the Replies (reply-rules), and how far it is kept, by what its readers answer (the
-- others).
-- Assumes nothing.
use mathlib.Core.Path.{◌≡◌, ap, ◌∙◌}
use mathlib.Core.Bool.{true}
use mathlib.Core.List.{List}
use Prim.Native.Nat.{ℕ, ◌+◌, ◌≤◌, ◌<◌}
use native.Mathlib.Omega.{arith}
use lib.Dec.{eqb, lit<, lit≤}
use lib.ListN.{length, drop}
use borrow.Author.Tests.{eqb-true, eq-eqb}
use Rattle.numbers.specs.Words.{◌and◌}
use Rattle.numbers.specs.Numbers.{num, within, Bytes}
use Rattle.numbers.proofs.WordLaws.{and_both, and-true}
use Rattle.numbers.proofs.NumberLaws.{within_both, both-within}
use Rattle.offsets.specs.Rules.{Rule, end, reach, takes, free, between, number_reach}
use Rattle.offsets.proofs.RuleLaws.{Lives}
use Rattle.offsets.proofs.FieldLaws.{lives-end, lives-free, lives-between, lives-just}
use Rattle.offsets.proofs.PlaceLaws.{end-at, at-end, free-at, at-free, between-at, at-between, just-at, at-just}
use Rattle.offsets.proofs.OffsetLaws.{Rules}
use Rattle.offsets.proofs.ReadLaws.{free-field, past-field, short-field, past-number, short-number, number-le, place-le}
use Rattle.frames.specs.Kinds.{kind_of}
use Rattle.client.specs.Replies.{reply_framed, reply_ok, reply_rule}

-- what follows each field, from the last one on
abbrev pub from-outcome : Rule
from-outcome = between 1 0 1 6 (λ o. free 8 end)

abbrev pub from_view : Rule
from_view = free 20 from-outcome

abbrev pub from-addressee : Rule
from-addressee = between 1 0 0 0 (λ x. from_view)

abbrev pub from-kind : Rule
from-kind = between 1 0 12 12 (λ x. from-addressee)

abbrev pub from-version : Rule
from-version = between 1 0 1 1 (λ x. from-kind)

-- ---- it never gets stuck

lives : Lives reply_rule
unfolding reply_rule
lives =
    lives-just 4 32 from-version (lit< tt)
    (lives-just 1 1 from-kind (lit< tt)
    (lives-just 1 12 from-addressee (lit< tt)
    (lives-just 1 0 from_view (lit< tt)
    (lives-free 20 from-outcome
    (lives-between 1 1 6 (λ o. free 8 end) (lit≤ tt) (lit< tt) (λ o a b. lives-free 8 end lives-end))))))

-- ---- the bytes that keep it

formed-by : (s : List ℕ) → Bytes s → takes reply_rule s ≡ true → reply_ok s ≡ true
unfolding reply_rule reply_ok reply_framed
formed-by s b h =
    let a = just-at 4 32 from-version 0 s (lit< tt) (omega arith) h in
    let v = just-at 1 1 from-kind 4 s (lit< tt) a.0 a.2 in
    let k = just-at 1 12 from-addressee 5 s (lit< tt) v.0 v.2 in
    let t = just-at 1 0 from_view 6 s (lit< tt) k.0 k.2 in
    let w = free-at 20 from-outcome 7 s t.0 t.2 in
    let o = between-at 1 1 6 (λ o. free 8 end) 27 s (lit< tt) w.0 w.1 in
    let f = free-at 8 end 28 s o.long o.rest in
    let l = end-at 36 s f.0 f.1 in
    let e0 = eqb (length s) 36 in
    let e1 = eqb (num 4 0 s) 32 in
    let e2 = eqb (num 1 4 s) 1 in
    let e3 = eqb (kind_of s) 12 in
    let e4 = eqb (num 1 6 s) 0 in
    and-true (e0 and e1 and e2 and e3 and e4) (within 1 6 (num 1 27 s))
    (and-true e0 (e1 and e2 and e3 and e4) (eq-eqb (length s) 36 l)
    (and-true e1 (e2 and e3 and e4) (eq-eqb (num 4 0 s) 32 a.1)
    (and-true e2 (e3 and e4) (eq-eqb (num 1 4 s) 1 v.1)
    (and-true e3 e4 (eq-eqb (kind_of s) 12 k.1) (eq-eqb (num 1 6 s) 0 t.1)))))
    (both-within 1 6 (num 1 27 s) o.least o.most)

taken-by : (s : List ℕ) → Bytes s → reply_ok s ≡ true → takes reply_rule s ≡ true
unfolding reply_rule reply_ok reply_framed
taken-by s b h =
    let e0 = eqb (length s) 36 in
    let e1 = eqb (num 4 0 s) 32 in
    let e2 = eqb (num 1 4 s) 1 in
    let e3 = eqb (kind_of s) 12 in
    let e4 = eqb (num 1 6 s) 0 in
    let f = and_both (e0 and e1 and e2 and e3 and e4) (within 1 6 (num 1 27 s)) h in
    let p = and_both e0 (e1 and e2 and e3 and e4) f.0 in
    let q = and_both e1 (e2 and e3 and e4) p.1 in
    let r = and_both e2 (e3 and e4) q.1 in
    let t = and_both e3 e4 r.1 in
    let w = within_both 1 6 (num 1 27 s) f.1 in
    let l : length s ≡ 36 = eqb-true (length s) 36 p.0 in
    at-just 4 32 from-version 0 s b (omega (arith, l)) (eqb-true (num 4 0 s) 32 q.0)
    (at-just 1 1 from-kind 4 s b (omega (arith, l)) (eqb-true (num 1 4 s) 1 r.0)
    (at-just 1 12 from-addressee 5 s b (omega (arith, l)) (eqb-true (kind_of s) 12 t.0)
    (at-just 1 0 from_view 6 s b (omega (arith, l)) (eqb-true (num 1 6 s) 0 t.1)
    (at-free 20 from-outcome 7 s (omega (arith, l))
    (at-between 1 1 6 (λ o. free 8 end) 27 s b (omega (arith, l)) w.0 w.1 (at-free 8 end 28 s (omega (arith, l)) (at-end 36 s l)))))))

pub reply-rules : Rules reply_ok reply_rule
reply-rules = record { lives = lives; formed-by = formed-by; taken-by = taken-by }

-- ---- how far it is kept: a reader from place a on, of a field of n bytes, stopped at p

module _ (a n : ℕ) (r : Rule) (s : List ℕ) {p : ℕ} where
  module _ (low high : ℕ) (e : p ≡ a + number_reach n 0 low high (drop a s)) where
    pub number_read : a + n ≤ p → a + reach (between n 0 low high (λ x. r)) (drop a s) ≡ a + n + reach r (drop (a + n) s)
    number_read h =
        let q : p ≡ a + n = omega (arith, h, e, number-le n 0 low high (drop a s)) in
        past-number a s p n low high (λ x. r) e (omega (arith, h)) ∙ ap (λ (x : ℕ). x + reach r (drop x s)) q

    pub number-broken : p < a + n → a + reach (between n 0 low high (λ x. r)) (drop a s) ≡ p
    number-broken h = short-number a s p n low high (λ x. r) e (omega (arith, h, e))

    pub number-long : a ≤ length s → a + n ≤ p → a + n ≤ length s
    unfolding number_reach
    number-long l h = omega (arith, h, e, place-le (between n 0 low high (λ v. end)) a s l)

  module _ (e : p ≡ a + reach (free n end) (drop a s)) where
    pub free-read : a + n ≤ p → a + reach (free n r) (drop a s) ≡ a + n + reach r (drop (a + n) s)
    free-read h =
        let q : p ≡ a + n = omega (arith, h, e, (free-field n).most (drop a s)) in
        past-field a s p (free-field n) r e (omega (arith, h)) ∙ ap (λ (x : ℕ). x + reach r (drop x s)) q

    pub free-broken : p < a + n → a + reach (free n r) (drop a s) ≡ p
    free-broken h = short-field a s p (free-field n) r e (omega (arith, h, e))

    pub free-long : a ≤ length s → a + n ≤ p → a + n ≤ length s
    free-long l h = omega (arith, h, e, place-le (free n end) a s l)
