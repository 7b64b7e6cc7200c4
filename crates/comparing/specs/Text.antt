-- FORMAT.md: a line's words are parted by one space. Numbers are decimal, a digest is hexadecimal, a byte run is lower-case hexadecimal, or `-` when empty. Numbers are kept to 64 bits.
-- Assumes nothing.
use Rattle.std.specs.Prelude.{ℕ, zero, suc, ◌+◌, ◌-◌, ◌*◌, ◌/◌, ◌%◌, ◌^◌, Bool, true, false, List, [], ◌∷◌, ◌++◌, length, take, drop, ◌==◌, nat_le, nat_lt, slice_index, take_while, not, count_by, fold}
use Rattle.std.specs.Str.{bytes_eq}
use Rattle.numbers.specs.Words.{when◌then◌else◌}

-- the first place of the byte b, or the length
abbrev pub place_of : (b : ℕ) → List ℕ → ℕ
place_of b s = length (take_while (λ x. not (x == b)) s)

-- how often b is there
abbrev pub times_in : (b : ℕ) → List ℕ → ℕ
times_in b s = count_by (λ x. x == b) s

-- the place behind the space that ends the word at place a; the length where there is none
unfoldable pub behind_word : List ℕ → (a : ℕ) → ℕ
behind_word s a = when nat_le (length (drop a s)) (place_of 32 (drop a s)) then length s else a + place_of 32 (drop a s) + 1

-- where word k begins, the first being word 0; the length where there are fewer
unfoldable pub word_start : (k : ℕ) → List ℕ → ℕ
word_start zero s = 0
word_start (suc k) s = behind_word s (word_start k s)

-- up to the first space
unfoldable pub first_word : List ℕ → List ℕ
first_word s = take (place_of 32 s) s

-- word k
unfoldable pub word_at : (k : ℕ) → List ℕ → List ℕ
word_at k s = first_word (drop (word_start k s) s)

-- the value of a digit: 0 to 9, a to f; 16: no digit
unfoldable pub digit_of : (c : ℕ) → ℕ
digit_of c =
    when nat_lt c 48 then 16 else
    when nat_le c 57 then c - 48 else
    when nat_lt c 97 then 16 else
    when nat_le c 102 then c - 87 else
    16

-- the base of a number: hexadecimal or decimal
unfoldable pub base_of : (hex : Bool) → ℕ
base_of true = 16
base_of false = 10

-- the number x with one digit more
unfoldable pub with_digit : (hex : Bool) (x c : ℕ) → ℕ
with_digit hex x c = (x * base_of hex + digit_of c) % 2 ^ 64

-- the number of a word, after the number x
abbrev pub number_after : (hex : Bool) (x : ℕ) → List ℕ → ℕ
number_after hex x s = fold (with_digit hex) x s

-- word k as a number
unfoldable pub number_at : (hex : Bool) (k : ℕ) → List ℕ → ℕ
number_at hex k s = number_after hex 0 (word_at k s)

-- the digit of a value below 16
unfoldable pub hex_digit : ℕ → ℕ
hex_digit d = when nat_lt d 10 then 48 + d else 87 + d

-- bytes in hexadecimal, two digits each
unfoldable pub hex_text : List ℕ → List ℕ
hex_text [] = []
hex_text (b ∷ bs) = hex_digit (b / 16) ∷ hex_digit (b % 16) ∷ hex_text bs

-- the word of a byte run
unfoldable pub run_text : List ℕ → List ℕ
run_text [] = 45 ∷ []
run_text (b ∷ bs) = hex_text (b ∷ bs)

-- whether two runs are the same
abbrev pub same_bytes : List ℕ → List ℕ → Bool
same_bytes s t = bytes_eq s t

-- byte i of a word in hexadecimal
unfoldable pub byte_at : List ℕ → (i : ℕ) → ℕ
byte_at w i = (digit_of (slice_index w (2 * i)) * 16 + digit_of (slice_index w (2 * i + 1))) % 256

-- its first n bytes
unfoldable pub bytes_in : (n : ℕ) → List ℕ → List ℕ
bytes_in zero w = []
bytes_in (suc n) w = bytes_in n w ++ byte_at w n ∷ []

-- the lesser of two
unfoldable pub lesser_of : ℕ → ℕ → ℕ
lesser_of a b = when nat_le a b then a else b
