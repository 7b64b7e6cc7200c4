-- Document 02, "decimal without leading zeros": a number as the figures 0 to 9, the bytes 48 to 57, the highest first; no figure 0 in front of others.
-- One definition serves numbers of any width: a bound, 2^64-1 or 2^32-1, is a number beside it. Assumes nothing.
use Rattle.std.specs.Prelude.{Bool, true, not, Option, Some, None, List, [], ◌∷◌, ◌++◌, ℕ, zero, suc, ◌+◌, ◌-◌, ◌*◌, ◌/◌, ◌%◌, eqb, leb, ltb, length, get_or}
use Rattle.numbers.specs.Words.{when◌then◌else◌, ◌and◌}
use Rattle.numbers.specs.Numbers.{within}

-- the figure of a number below 10
abbrev pub figure : ℕ → ℕ
figure d = 48 + d

-- the figures of n, where it has at most so many: those of n / 10, if there are any, and the last
unfoldable pub figures : (most n : ℕ) → List ℕ
figures zero n = []
figures (suc k) n = when ltb n 10 then figure n ∷ [] else figures k (n / 10) ++ figure (n % 10) ∷ []

-- a number in decimal; n + 1 figures are always enough
unfoldable pub decimal : ℕ → List ℕ
decimal n = figures (suc n) n

-- the number that figures stand for, the highest first, after the number x
unfoldable pub value_from : (x : ℕ) → List ℕ → ℕ
value_from x [] = x
value_from x (b ∷ s) = value_from (10 * x + (b - 48)) s

unfoldable pub all_figures : List ℕ → Bool
all_figures [] = true
all_figures (b ∷ s) = within 48 57 b and all_figures s

-- a 0 in front of other bytes
unfoldable pub leading_zero : List ℕ → Bool
leading_zero s = leb 2 (length s) and eqb (get_or s 0 0) 48

-- a text that is a number in decimal: one figure or more, no leading zero
unfoldable pub is_decimal : List ℕ → Bool
is_decimal s = leb 1 (length s) and not (leading_zero s) and all_figures s

-- what a text says: a number in decimal, not above the bound, or none
unfoldable pub number_in : (most : ℕ) → List ℕ → Option ℕ
number_in most s =
    when is_decimal s and leb (value_from 0 s) most then Some (value_from 0 s) else
    None
