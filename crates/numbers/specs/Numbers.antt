-- Document 01, "Frames": all numbers are big-endian. One definition over the width k serves the numbers of 1, 2, 4 and 8 bytes.
-- What is written to lent memory stands over its front and leaves the rest as it was. Assumes nothing.
use Rattle.std.specs.Prelude.{◌≡◌, Bool, List, [], ◌∷◌, ◌++◌, ℕ, zero, suc, ◌+◌, ◌*◌, ◌/◌, ◌%◌, ◌^◌, ◌<◌, leb, length, get_or, take, drop}
use Rattle.numbers.specs.Words.{◌and◌}
use Rattle.numbers.specs.declared.View.{View}
use Rattle.numbers.specs.declared.Op.{Op}

-- the number that bytes stand for, the highest first, after the number acc
abbrev pub be_from : ℕ → List ℕ → ℕ
be_from acc [] = acc
be_from acc (b ∷ bs) = be_from (acc * 256 + b) bs

abbrev pub be : List ℕ → ℕ
be bs = be_from 0 bs

-- the k lowest bytes of x, the highest first
unfoldable pub big : ℕ → ℕ → List ℕ
big zero x = []
big (suc k) x = x / 256 ^ k % 256 ∷ big k x

-- the k-byte number at place a of s
unfoldable pub num : ℕ → ℕ → List ℕ → ℕ
num k a s = be (take k (drop a s))

-- a view number, and an op or commit number, at place a
abbrev pub view_at : ℕ → List ℕ → View
view_at a s = record { 0 = num 4 a s }

abbrev pub op_at : ℕ → List ℕ → Op
op_at a s = record { 0 = num 4 a s }

-- low ≤ x ≤ high
unfoldable pub within : ℕ → ℕ → ℕ → Bool
within low high x = leb low x and leb x high

-- a run of bytes: what owning a `&[u8]` tells
abbrev pub Bytes : List ℕ → Type 0
Bytes s = (i : ℕ) → get_or s i 0 < 256

-- the bytes w written over the front of s
unfoldable pub over : List ℕ → List ℕ → List ℕ
over w s = w ++ drop (length w) s

-- the bytes w written at place a of s
unfoldable pub put_at : ℕ → List ℕ → List ℕ → List ℕ
put_at a w s = take a s ++ over w (drop a s)

-- A writer's promise: its bytes stand over the front of what was there, the rest is as it was, and it reports how many they are.
pub record Wrote (w before after : List ℕ) (n : ℕ) : Type 0 where
  pub bytes : after ≡ over w before
  pub count : n ≡ length w
