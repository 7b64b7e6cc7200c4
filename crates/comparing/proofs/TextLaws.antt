-- Turns of the loops over a line's words: what a definition says of the bytes from place i on, by the byte there and those behind it. Assumes nothing.
use Rattle.std.proofs.Common.{◌++◌, min, ◌≡◌, ℕ, zero, suc, ◌+◌, ◌-◌, ◌*◌, ◌/◌, ◌%◌, ◌<◌, ◌≤◌, true, false, eqb, List, [], ◌∷◌, length, get_or, take, drop, set, refl, ap, ◌∙◌, add-one, arith, length-append, length-drop, drop-cons, eq-eqb, ne_eqb, le-leb}
use mathlib.Core.List.{append-nil}
use lib.ListN.{drop_of_length-le}
use lib.Seq.{length-take-le}
use borrow.Author.Tests.{lt-leb}
use lib.Seq.{drop-length}
use Rattle.numbers.specs.Numbers.{over}
use Rattle.numbers.proofs.RunLaws.{part-rest, over-set}
use Rattle.numbers.proofs.WordLaws.{and-false}
use Rattle.numbers.specs.Words.{when◌then◌else◌, ◌and◌}
use Rattle.comparing.specs.Text.{place_of, behind_word, word_start, first_word, word_at, hex_digit, hex_text, run_text, same_bytes, byte_at, bytes_in, lesser_of}

-- no space behind place a; n is what a search for one gives
pub behind-none : (s : List ℕ) (a n : ℕ) → n ≡ place_of 32 (take (length s - a) (drop a s)) → length s - a ≤ n → length s ≡ behind_word s a
unfolding behind_word when◌then◌else◌
behind-none s a n e h =
    let p : n ≡ place_of 32 (drop a s) = e ∙ ap (place_of 32) (part-rest a s) in
    rw (← p, length-drop a s, le-leb (length s - a) n h)

pub behind-some : (s : List ℕ) (a n : ℕ) → n ≡ place_of 32 (take (length s - a) (drop a s)) → n < length s - a → a + n + 1 ≡ behind_word s a
unfolding behind_word when◌then◌else◌
behind-some s a n e h =
    let p : n ≡ place_of 32 (drop a s) = e ∙ ap (place_of 32) (part-rest a s) in
    rw (← p, length-drop a s, lt-leb (length s - a) n h)

pub start-next : (s : List ℕ) (i at r : ℕ) → at ≡ word_start i s → r ≡ behind_word s at → r ≡ word_start (i + 1) s
unfolding word_start
start-next s i at r e h = rw (add-one, ← e) h

-- the first word of what is from word k on is word k
pub word-part : (s : List ℕ) (k at : ℕ) → at ≡ word_start k s → first_word (take (length s - at) (drop at s)) ≡ word_at k s
unfolding word_at
word-part s k at e = rw (part-rest at s, e)

pub bytes-length : (n : ℕ) (w : List ℕ) → length (bytes_in n w) ≡ n
unfolding bytes_in
bytes-length zero w = refl
bytes-length (suc n) w = length-append (bytes_in n w) (byte_at w n ∷ []) ∙ ap (λ (k : ℕ). k + 1) (bytes-length n w) ∙ add-one n

-- one byte more is stored
pub bytes_next : (w s cur : List ℕ) (i b : ℕ) → i < length s → cur ≡ over (bytes_in i w) s → b ≡ byte_at w i → set cur i b ≡ over (bytes_in (i + 1) w) s
unfolding bytes_in
bytes_next w s cur i b h e p = rw (add-one, ← p) (over-set (bytes_in i w) s i b (bytes-length i w) h e)

-- all of the first n bytes of an area are stored
pub bytes-done : (w area cur : List ℕ) (n i : ℕ) → n ≤ length area → length (take n area) ≤ i → i ≤ length (take n area) → cur ≡ over (bytes_in i w) (take n area)
    → cur ++ drop n area ≡ over (bytes_in n w) area
unfolding over
bytes-done w area cur n i h p q e =
    let l : length (take n area) ≡ n = length-take-le n area h in
    let k : i ≡ n = omega arith in
    rw (e, k, bytes-length n w, drop_of_length-le (take n area) {i = n} (omega arith), append-nil (bytes_in n w)) refl

pub min-lesser : (a b : ℕ) → min a b ≡ lesser_of a b
unfolding lesser_of when◌then◌else◌
min-lesser a b = grind arith

-- runs of different lengths differ
pub same-lengths : (x y : List ℕ) → (length x ≡ length y → ⊥) → same_bytes x y ≡ false
unfolding ◌and◌
same-lengths [] [] h = absurd (h refl)
same-lengths [] (y ∷ ys) h = refl
same-lengths (x ∷ xs) [] h = refl
same-lengths (x ∷ xs) (y ∷ ys) h = rw (same-lengths xs ys (λ e. h (ap suc e))) (and-false (eqb x y) false refl)

pub text-length : (s : List ℕ) → length (hex_text s) ≡ 2 * length s
unfolding hex_text
text-length [] = refl
text-length (b ∷ bs) = let e = text-length bs in omega arith

-- two digits and a byte
pub text-step : (w s : List ℕ) (i : ℕ) → i < length s → 2 * i + 1 < length w
    → same_bytes (drop (2 * i) w) (hex_text (drop i s))
    ≡ (eqb (get_or w (2 * i) 0) (hex_digit (get_or s i 0 / 16)) and (eqb (get_or w (2 * i + 1) 0) (hex_digit (get_or s i 0 % 16)) and same_bytes (drop (2 * (i + 1)) w) (hex_text (drop (i + 1) s))))
unfolding hex_text ◌and◌
text-step w s i h l =
    let e : 2 * (i + 1) ≡ suc (suc (2 * i)) = omega arith in
    rw (e, add-one (2 * i), add-one i, drop-cons s i 0 h, drop-cons w (2 * i) 0 (omega arith), drop-cons w (suc (2 * i)) 0 (omega arith))

module _ (w s : List ℕ) (i high low : ℕ) (h : i < length s) (l : 2 * i + 1 < length w) (p : high ≡ hex_digit (get_or s i 0 / 16)) where
  -- the first digit differs
  pub text-first : (get_or w (2 * i) 0 ≡ high → ⊥) → same_bytes (drop (2 * i) w) (hex_text (drop i s)) ≡ false
  unfolding ◌and◌
  text-first n = rw (text-step w s i h l, ← p, ne_eqb (get_or w (2 * i) 0) high n)

  module _ (q : low ≡ hex_digit (get_or s i 0 % 16)) (e : get_or w (2 * i) 0 ≡ high) where
    -- the second does
    pub text-second : (get_or w (2 * i + 1) 0 ≡ low → ⊥) → same_bytes (drop (2 * i) w) (hex_text (drop i s)) ≡ false
    unfolding ◌and◌
    text-second n = rw (text-step w s i h l, ← p, ← q, eq-eqb (get_or w (2 * i) 0) high e, ne_eqb (get_or w (2 * i + 1) 0) low n)

    -- none does
    pub text-next : get_or w (2 * i + 1) 0 ≡ low → same_bytes (drop (2 * i) w) (hex_text (drop i s)) ≡ same_bytes (drop (2 * (i + 1)) w) (hex_text (drop (i + 1) s))
    unfolding ◌and◌
    text-next f = rw (text-step w s i h l, ← p, ← q, eq-eqb (get_or w (2 * i) 0) high e, eq-eqb (get_or w (2 * i + 1) 0) low f)

pub text-end : (w s : List ℕ) (i : ℕ) → length s ≤ i → i ≤ length s → length w ≡ 2 * length s → same_bytes (drop (2 * i) w) (hex_text (drop i s)) ≡ true
unfolding hex_text
text-end w s i h l e =
    let p : i ≡ length s = omega arith in
    let q : 2 * i ≡ length w = omega arith in
    rw (q, p, drop-length s, drop-length w)

pub run_none : (s : List ℕ) → length s ≡ 0 → run_text s ≡ 45 ∷ []
unfolding run_text
run_none [] e = refl
run_none (b ∷ bs) e = absurd (omega arith)

pub run-some : (s : List ℕ) → (length s ≡ 0 → ⊥) → run_text s ≡ hex_text s
unfolding run_text hex_text
run-some [] h = absurd (h refl)
run-some (b ∷ bs) h = refl
