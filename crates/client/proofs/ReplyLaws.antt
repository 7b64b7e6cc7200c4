-- Laws of a Reply that is read.
--     framed_long, reply-long     what passes the test, but for its outcome or whole, is 36 bytes
--     read-outcome            what `writers::write_reply` writes with an outcome's number is read as that reply
--     read-written            the same, from a number from 1 to 6
--     outcome-back, outcome-forth     an outcome is that of its number, and what a number is read as has that number
--     outcome-there, outcome-none     a number from 1 to 6 is an outcome's, and no other is
--     unframed, no-outcome, with-outcome     what precedes the outcome, then the outcome
--     accepted, malformed-back, malformed-exactly     malformed exactly where `reply_ok` is false
--     read_number_lem, reads      the number and values of a read are those that the bytes give, so that who answers the definition keeps the whole promise
-- Assumes nothing.
use mathlib.Core.Path.{◌≡◌, refl, sym, ap, ◌∙◌, subst}
use mathlib.Core.Bool.{Bool, true, false}
use mathlib.Core.List.{List, [], ◌∷◌}
use mathlib.Core.Logic.{⊎_elim}
use Prim.Native.Nat.{ℕ, ◌^◌, ◌≤◌, ◌<◌}
use native.Mathlib.Omega.{arith}
use lib.Dec.{eqb, lit≤}
use lib.ListN.{length}
use borrow.Author.Tests.{eqb-true}
use Rattle.std.specs.Prelude.{Option, None, Some, MatchOption, Result, Ok, Err, IsErrAnd}
use Rattle.std.specs.Result.{result_ok, result_map_both}
use Rattle.numbers.specs.Words.{when◌then◌else◌, ◌and◌}
use Rattle.numbers.specs.Numbers.{num, big, within}
use Rattle.numbers.specs.declared.View.{View}
use Rattle.numbers.proofs.WordLaws.{and_both, and-true, and-false, if-true, if-false, split}
use Rattle.numbers.proofs.NumberLaws.{be-big, within_both, both-within, eq-or-not}
use Rattle.offsets.specs.Offsets.{Points}
use Rattle.offsets.proofs.OffsetLaws.{points, unpointed}
use Rattle.frames.specs.Numbered.{numbered, in_turn}
use Rattle.writers.specs.Writers.{header, reply}
use Rattle.client.specs.declared.outcome.ReplyOutcome.{ReplyOutcome}
use Rattle.client.specs.declared.outcome.ReplyOutcome.TheVariants.{Fee, Refund, Ask, NoMember, PastLimit, PastTotal}
use Rattle.client.specs.declared.outcome.NoOutcome.{NoOutcome}
use Rattle.client.specs.declared.ReplyFields.{ReplyFields}
use Rattle.client.specs.declared.Malformed.{Malformed}
use Rattle.client.proofs.PlaceLaws.{reply-rules}
use Rattle.client.specs.Outcomes.{outcome_number, outcome_of}
use Rattle.client.specs.Replies.{reply_framed, reply_ok, reply_rule, reply_offset, malformed, reply_said, read_reply, read_number, read_offset, read_numbers, Reads}

-- what passes the test but for the outcome is 36 bytes
pub framed_long : (s : List ℕ) → reply_framed s ≡ true → length s ≡ 36
unfolding reply_framed
framed_long s h = eqb-true (length s) 36 (and_both (eqb (length s) 36) _ h).0

pub reply-long : (s : List ℕ) → reply_ok s ≡ true → length s ≡ 36
unfolding reply_ok
reply-long s h = framed_long s (and_both (reply_framed s) _ h).0

-- ---- outcomes and their numbers

pub outcome-back : (o : ReplyOutcome) → outcome_of (outcome_number o) ≡ Ok o
unfolding outcome_of when◌then◌else◌
outcome-back Fee = refl
outcome-back Refund = refl
outcome-back Ask = refl
outcome-back NoMember = refl
outcome-back PastLimit = refl
outcome-back PastTotal = refl

pub outcome-within : (o : ReplyOutcome) → (1 ≤ outcome_number o) × (outcome_number o ≤ 6)
outcome-within Fee = (lit≤ tt, lit≤ tt)
outcome-within Refund = (lit≤ tt, lit≤ tt)
outcome-within Ask = (lit≤ tt, lit≤ tt)
outcome-within NoMember = (lit≤ tt, lit≤ tt)
outcome-within PastLimit = (lit≤ tt, lit≤ tt)
outcome-within PastTotal = (lit≤ tt, lit≤ tt)

-- a number from 1 to 6 is an outcome's
pub outcome-there : (k : ℕ) → 1 ≤ k → k ≤ 6 → (o : ReplyOutcome) × (k ≡ outcome_number o)
outcome-there k l h =
    ⊎_elim (λ e. (Fee, e)) (λ a.
    ⊎_elim (λ e. (Refund, e)) (λ b.
    ⊎_elim (λ e. (Ask, e)) (λ d.
    ⊎_elim (λ e. (NoMember, e)) (λ f.
    ⊎_elim (λ e. (PastLimit, e)) (λ g. (PastTotal, last k l h a b d f g))
    (eq-or-not k 5)) (eq-or-not k 4)) (eq-or-not k 3)) (eq-or-not k 2)) (eq-or-not k 1)
  where
    last : (k : ℕ) → 1 ≤ k → k ≤ 6 → (k ≡ 1 → ⊥) → (k ≡ 2 → ⊥) → (k ≡ 3 → ⊥) → (k ≡ 4 → ⊥) → (k ≡ 5 → ⊥) → k ≡ 6
    last k l h a b d f g = omega arith

-- and any other is none's
pub outcome-none : (k : ℕ) (e : NoOutcome) → outcome_of k ≡ Err e → within 1 6 k ≡ false
outcome-none k e h = go (within 1 6 k) refl
  where
    not-both : {o : ReplyOutcome} → ◌≡◌ {A = Result ReplyOutcome NoOutcome} (Ok o) (Err e) → ⊥
    not-both q = cc

    go : (b : Bool) → within 1 6 k ≡ b → b ≡ false
    go true w =
        let l = within_both 1 6 k w in
        let o = outcome-there k l.0 l.1 in
        absurd (not-both (sym (ap outcome_of o.1 ∙ outcome-back o.0) ∙ h))
    go false w = refl

-- an outcome that a number is read as has that number
module _ (k : ℕ) (o : ReplyOutcome) where
  abbrev Numbers : Result ReplyOutcome NoOutcome → Type 0
  Numbers r = r ≡ Ok o → outcome_number o ≡ k

  one : (x : ReplyOutcome) → eqb k (outcome_number x) ≡ true → Numbers (Ok x)
  one x e q = let same : x ≡ o = cc in ap outcome_number (sym same) ∙ sym (eqb-true k (outcome_number x) e)

  none : {e : NoOutcome} → Numbers (Err e)
  none q = cc

  pub outcome-forth : outcome_of k ≡ Ok o → outcome_number o ≡ k
  unfolding outcome_of
  outcome-forth =
      split Numbers (eqb k 1) _ _ (one Fee) (λ _.
      split Numbers (eqb k 2) _ _ (one Refund) (λ _.
      split Numbers (eqb k 3) _ _ (one Ask) (λ _.
      split Numbers (eqb k 4) _ _ (one NoMember) (λ _.
      split Numbers (eqb k 5) _ _ (one PastLimit) (λ _.
      split Numbers (eqb k 6) _ _ (one PastTotal) (λ _. none))))))

-- ---- malformed, in both directions

pub accepted : (s : List ℕ) (o : ReplyOutcome) → reply_ok s ≡ true → outcome_of (num 1 27 s) ≡ Ok o → read_reply s ≡ Ok (reply_said s o)
unfolding read_reply
accepted s o h e = if-true (reply_ok s) _ _ h ∙ ap (result_map_both (reply_said s) (λ _. malformed s)) e

-- what is accepted has an outcome
pub accepted-outcome : (s : List ℕ) → reply_ok s ≡ true → (o : ReplyOutcome) × (num 1 27 s ≡ outcome_number o)
unfolding reply_ok
accepted-outcome s h =
    let w = within_both 1 6 (num 1 27 s) (and_both (reply_framed s) (within 1 6 (num 1 27 s)) h).1 in
    outcome-there (num 1 27 s) w.0 w.1

pub accepted-said : (s : List ℕ) (h : reply_ok s ≡ true) → read_reply s ≡ Ok (reply_said s (accepted-outcome s h).0)
accepted-said s h = let o = accepted-outcome s h in accepted s o.0 h (ap outcome_of o.1 ∙ outcome-back o.0)

pub malformed-back : (s : List ℕ) → reply_ok s ≡ false → read_reply s ≡ Err (malformed s)
unfolding read_reply
malformed-back s h = if-false (reply_ok s) _ _ h

pub malformed-exactly : (s : List ℕ) → (read_number (read_reply s)).number ≡ 2 → reply_ok s ≡ false
malformed-exactly s h = go (reply_ok s) refl
  where
    go : (b : Bool) → reply_ok s ≡ b → reply_ok s ≡ false
    go true e = absurd (omega (arith, sym h ∙ ap (λ (r : Result ReplyFields Malformed). (read_number r).number) (accepted-said s e)))
    go false e = e

-- ---- read in turn: what precedes the outcome, then the outcome

pub unframed : (s : List ℕ) → reply_framed s ≡ false → reply_ok s ≡ false
unfolding reply_ok ◌and◌
unframed s h = rw h

module _ (s : List ℕ) (h : reply_framed s ≡ true) (r : Result ReplyOutcome NoOutcome) (e : r ≡ outcome_of (num 1 27 s)) where
  pub no-outcome : result_ok r ≡ None → reply_ok s ≡ false
  unfolding reply_ok
  no-outcome n = let x = none r n in and-false (reply_framed s) (within 1 6 (num 1 27 s)) (outcome-none (num 1 27 s) x.0 (sym e ∙ x.1))
    where
      none : (r : Result ReplyOutcome NoOutcome) → result_ok r ≡ None → (x : NoOutcome) × (r ≡ Err x)
      none (Ok o) q = cc
      none (Err x) q = (x, refl)

  pub with-outcome : {o : ReplyOutcome} → result_ok r ≡ Some o → Ok (reply_said s o) ≡ read_reply s
  unfolding reply_ok
  with-outcome {o} n =
      let read : outcome_of (num 1 27 s) ≡ Ok o = sym e ∙ some r n in
      let w = outcome-within o in
      let number = outcome-forth (num 1 27 s) o read in
      let inside : within 1 6 (num 1 27 s) ≡ true = both-within 1 6 (num 1 27 s) (omega (arith, w.0, number)) (omega (arith, w.1, number)) in
      sym (accepted s o (and-true (reply_framed s) (within 1 6 (num 1 27 s)) h inside) read)
    where
      some : (r : Result ReplyOutcome NoOutcome) → result_ok r ≡ Some o → r ≡ Ok o
      some (Ok x) q = cc
      some (Err x) q = cc

-- ---- the number and the values

pub read_number_lem : (s : List ℕ) → read_number (read_reply s) ≡ read_numbers s
unfolding read_numbers in_turn
read_number_lem s = go (reply_ok s) refl
  where
    go : (b : Bool) → reply_ok s ≡ b → read_number (read_reply s) ≡ read_numbers s
    go true e =
        ap read_number (accepted-said s e)
        ∙ ap (λ (o : ℕ). numbered 0 (num 4 7 s ∷ num 8 11 s ∷ num 8 19 s ∷ o ∷ num 8 28 s ∷ [])) (sym (accepted-outcome s e).1)
        ∙ sym (if-true (reply_ok s) _ _ e)
    go false e = ap read_number (malformed-back s e) ∙ sym (if-false (reply_ok s) _ _ e)

-- 2 comes with the offset of the first wrong byte, 0 with 0
module _ (s : List ℕ) where
  abbrev Pointed : Result ReplyFields Malformed → Type 0
  Pointed r = Points reply_ok s (read_number r).number (read_offset r)

  read-points : Pointed (read_reply s)
  unfolding reply_offset
  read-points = go (reply_ok s) refl
    where
      go : (b : Bool) → reply_ok s ≡ b → Pointed (read_reply s)
      go true e = subst Pointed (sym (accepted-said s e)) (unpointed reply_ok s {k = 0} (λ q. omega (arith, q)))
      go false e = subst Pointed (sym (malformed-back s e)) (points reply_ok s reply_rule reply-rules)

pub reads : (s : List ℕ) (r : Result ReplyFields Malformed) → r ≡ read_reply s → Reads s r
reads s r e = record { exact = e; number = ap read_number e ∙ read_number_lem s; points = rw e (read-points s) }

-- what the frame says where it says anything, else where it is wrong
pub said-or-wrong : (s : List ℕ) (p : Option ReplyFields) (r : Result ReplyFields Malformed) {Q : Malformed → Type 0} → MatchOption p (reply_ok s ≡ false) (λ x. Ok x ≡ read_reply s)
    → MatchOption p (IsErrAnd r Q) (λ x. r ≡ Ok x) → ((m : Malformed) → Q m → m ≡ malformed s) → Reads s r
said-or-wrong s (Some x) r e h q = reads s r (h ∙ e)
said-or-wrong s None (Ok x) e h q = absurd h
said-or-wrong s None (Err m) e h q = reads s (Err m) (ap Err (q m h) ∙ sym (malformed-back s e))

-- ---- what is written is read

module _ (v : View) (client request total : ℕ) (o : ReplyOutcome) (vf : v.0 < 2 ^ 32) (cf : client < 2 ^ 64) (rf : request < 2 ^ 64) (tf : total < 2 ^ 64) where
  abbrev frame : List ℕ
  frame = reply v client request (outcome_number o) total

  outcome-byte : num 1 27 frame ≡ outcome_number o
  unfolding reply header big num
  outcome-byte = be-big 1 (outcome_number o) (omega (arith, (outcome-within o).1))

  written-ok : reply_ok frame ≡ true
  unfolding reply_ok reply_framed reply header big num ◌and◌
  written-ok = rw outcome-byte (both-within 1 6 (outcome_number o) (outcome-within o).0 (outcome-within o).1)

  written-said : reply_said frame o ≡ record { view = v; client = client; request = request; outcome = o; total = total }
  unfolding reply header big num
  written-said =
      λ i. record {
        view = record { 0 = be-big 4 v.0 vf i };
        client = be-big 8 client cf i;
        request = be-big 8 request rf i;
        outcome = o;
        total = be-big 8 total tf i;
      }

  pub read-outcome : read_reply frame ≡ Ok (record { view = v; client = client; request = request; outcome = o; total = total })
  read-outcome = accepted frame o written-ok (ap outcome_of outcome-byte ∙ outcome-back o) ∙ ap Ok written-said

-- the same, from an outcome's number
pub read-written : (v : View) (client request k total : ℕ) → v.0 < 2 ^ 32 → client < 2 ^ 64 → request < 2 ^ 64 → total < 2 ^ 64 → 1 ≤ k → k ≤ 6
    → (o : ReplyOutcome) × (outcome_of k ≡ Ok o)
    × (read_reply (reply v client request k total) ≡ Ok (record { view = v; client = client; request = request; outcome = o; total = total }))
read-written v client request k total vf cf rf tf low high =
    let o = outcome-there k low high in (
      o.0,
      ap outcome_of o.1 ∙ outcome-back o.0,
      ap (λ (x : ℕ). read_reply (reply v client request x total)) o.1 ∙ read-outcome v client request total o.0 vf cf rf tf,
    )
