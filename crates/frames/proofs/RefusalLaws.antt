-- Laws of the refusals 2 to 6 on a frame alone.
--     passed            what a frame that passes keeps: `Fit`
--     number-some       no refusal's number is 0
--     refused-number    the number of a refusal is one of 2, 3, 4, 5, 6
-- Assumes nothing.
use Rattle.std.specs.Prelude.{Result, Ok, Err}
use mathlib.Core.Path.{◌≡◌, refl, subst, sym, ap, ◌∙◌}
use mathlib.Core.Logic.{◌⊎◌, inl, inr}
use mathlib.Core.Bool.{Bool, true, false, not}
use mathlib.Core.List.{List}
use Prim.Native.Nat.{ℕ, suc, ◌≤◌, ◌<◌}
use native.Mathlib.Omega.{arith}
use borrow.Author.Tests.{eqb-true, eqb-false, leb-false, ltb-false, not-false}
use lib.Dec.{eqb, leb, ltb}
use Rattle.numbers.specs.Words.{when◌then◌else◌, ◌or◌}
use Rattle.numbers.proofs.WordLaws.{split, or_left, or_right}
use Rattle.entries.specs.Rising.{rising}
use Rattle.config.specs.declared.Setup.{Setup}
use Rattle.frames.specs.FrameRules.{offset_of}
use Rattle.frames.specs.Messages.{parse_frame, carried_of}
use Rattle.frames.specs.Refusals.{number_of, whole_log, refusal_of, verdict, check_parsed, check_frame}
use Rattle.frames.specs.declared.Message.{Message}
use Rattle.frames.specs.declared.Carried.{Carried}
use Rattle.frames.specs.declared.Addressed.{Addressed}
use Rattle.frames.specs.declared.Refusal.{Refusal}
use Rattle.frames.specs.declared.Refusal.TheVariants.{OutOfRange, Malformed, NotForUs, PastRoom, PastLog, NotRising, Uncommits, LastView, NoRoomForMessages, NoRoomForReplies}
use Rattle.frames.proofs.MessageLaws.{Said, parsed}

-- ---- no refusal

-- a choice between a refusal and what follows, which is none
if_none : (b : Bool) (k : Refusal) (r : Result (Unit {0}) Refusal) → (when b then Err k else r) ≡ Ok tt → (b ≡ false) × (r ≡ Ok tt)
unfolding when◌then◌else◌
if_none true k r e = absurd (cc e)
if_none false k r e = (refl, e)

-- none of 3, 4, 5, 6 is given
record Unrefused (u : Setup) (to : ℕ) (x : Carried) (s : List ℕ) : Type 0 where
  own : to ≡ u.id
  sender : x.sender < u.n
  op : x.op.0 ≤ u.room
  commit : x.commit.0 ≤ x.op.0
  rises : rising (whole_log x s) ≡ true

unrefused : (u : Setup) (to : ℕ) (x : Carried) (s : List ℕ) → refusal_of u to x s ≡ Ok tt → Unrefused u to x s
unfolding refusal_of
unrefused u to x s h =
    let a = if_none (not (eqb to u.id) or leb u.n x.sender) NotForUs _ h in
    let b = if_none (ltb u.room x.op.0) PastRoom _ a.1 in
    let d = if_none (ltb x.op.0 x.commit.0) PastLog _ b.1 in
    let e = if_none (not (rising (whole_log x s))) NotRising _ d.1 in
    let o = or_left (not (eqb to u.id)) (leb u.n x.sender) a.0 in
    let q = or_right (not (eqb to u.id)) (leb u.n x.sender) a.0 in
    record {
      own = eqb-true to u.id (not-false (eqb to u.id) o);
      sender = leb-false u.n x.sender q;
      op = ltb-false u.room x.op.0 b.0;
      commit = ltb-false x.op.0 x.commit.0 d.0;
      rises = not-false (rising (whole_log x s)) e.0;
    }

-- ---- what a caller has from a frame that passes

pub record Fit (u : Setup) (s : List ℕ) (m : Message) : Type 0 where
  pub said : Said s u.id m
  pub sender : (carried_of m).sender < u.n
  pub op : (carried_of m).op.0 ≤ u.room
  pub commit : (carried_of m).commit.0 ≤ (carried_of m).op.0
  pub rises : rising (whole_log (carried_of m) s) ≡ true

verdict-passed : (j : Result (Unit {0}) Refusal) (x m : Message) → verdict j x ≡ Ok m → (j ≡ Ok tt) × (x ≡ m)
unfolding verdict
verdict-passed (Ok i) x m e = (refl, cc e)
verdict-passed (Err r) x m e = absurd (cc e)

passed-by : (u : Setup) (s : List ℕ) (m : Message) (p : Result Addressed Refusal) → parse_frame s ≡ p → check_parsed u s p ≡ Ok m → Fit u s m
unfolding check_parsed
passed-by u s m (Err r) q e = absurd (cc e)
passed-by u s m (Ok a) q e =
    let v = verdict-passed (refusal_of u a.to (carried_of a.message) s) a.message m e in
    let f = unrefused u a.to (carried_of a.message) s v.0 in
    let g = parsed s a q in
    let P : Message → Type 0 = Fit u s in
    subst P v.1
    record {
      said = rw f.own at g;
      sender = f.sender;
      op = f.op;
      commit = f.commit;
      rises = f.rises;
    }

pub passed : (u : Setup) (s : List ℕ) (m : Message) → check_frame u s ≡ Ok m → Fit u s m
unfolding check_frame
passed u s m h = passed-by u s m (parse_frame s) refl h

-- ---- the numbers

-- none is 0, which says that the call is done
pub number-some : (r : Refusal) → number_of r ≡ 0 → ⊥
number-some OutOfRange h = omega (arith, h)
number-some (Malformed p) h = omega (arith, h)
number-some NotForUs h = omega (arith, h)
number-some PastRoom h = omega (arith, h)
number-some PastLog h = omega (arith, h)
number-some NotRising h = omega (arith, h)
number-some Uncommits h = omega (arith, h)
number-some LastView h = omega (arith, h)
number-some NoRoomForMessages h = omega (arith, h)
number-some NoRoomForReplies h = omega (arith, h)

abbrev pub Listed : ℕ → Type 0
Listed k = (k ≡ 2) ⊎ ((k ≡ 3) ⊎ ((k ≡ 4) ⊎ ((k ≡ 5) ⊎ (k ≡ 6))))

refusal-number : (u : Setup) (to : ℕ) (x : Carried) (s : List ℕ) (r : Refusal) → refusal_of u to x s ≡ Err r → Listed (number_of r)
unfolding refusal_of
refusal-number u to x s r =
    let P : Result (Unit {0}) Refusal → Type 0 = λ j. j ≡ Err r → Listed (number_of r) in
    let is : (k : Refusal) → Listed (number_of k) → P (Err k) = λ k l e. let same : k ≡ r = cc e in let Q : Refusal → Type 0 = λ x. Listed (number_of x) in subst Q same l in
    split P _ (Err NotForUs) _ (λ b. is NotForUs (inr (inl refl))) (λ b.
    split P _ (Err PastRoom) _ (λ b. is PastRoom (inr (inr (inl refl)))) (λ b.
    split P _ (Err PastLog) _ (λ b. is PastLog (inr (inr (inr (inl refl))))) (λ b.
    split P _ (Err NotRising) (Ok tt) (λ b. is NotRising (inr (inr (inr (inr refl))))) (λ b e. absurd (cc e)))))

-- a parse is refused by 2 alone
malformed-number : (s : List ℕ) (k : Refusal) → parse_frame s ≡ Err k → number_of k ≡ 2
unfolding parse_frame
malformed-number s k =
    let P : Result Addressed Refusal → Type 0 = λ p. p ≡ Err k → number_of k ≡ 2 in
    split P _ (Ok _) (Err (Malformed (offset_of s))) (λ b e. absurd (cc e)) (λ b e. let same : Malformed (offset_of s) ≡ k = cc e in ap number_of (sym same))

refused-by : (u : Setup) (s : List ℕ) (r : Refusal) (p : Result Addressed Refusal) → parse_frame s ≡ p → check_parsed u s p ≡ Err r → Listed (number_of r)
unfolding check_parsed verdict
refused-by u s r (Err k) q e = let same : k ≡ r = cc e in inl (rw same at (malformed-number s k q))
refused-by u s r (Ok a) q e = by-verdict (refusal_of u a.to (carried_of a.message) s) refl e
  where
    by-verdict : (j : Result (Unit {0}) Refusal) → refusal_of u a.to (carried_of a.message) s ≡ j → verdict j a.message ≡ Err r → Listed (number_of r)
    by-verdict (Ok i) h e = absurd (cc e)
    by-verdict (Err k) h e = refusal-number u a.to (carried_of a.message) s r (h ∙ cc e)

pub refused-number : (u : Setup) (s : List ℕ) (r : Refusal) → check_frame u s ≡ Err r → Listed (number_of r)
unfolding check_frame
refused-number u s r h = refused-by u s r (parse_frame s) refl h
