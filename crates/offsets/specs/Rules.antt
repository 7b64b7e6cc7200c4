-- What may stand at each place, byte after byte from the left: a rule says which byte may come, and for each such byte the rule for what follows. Who goes
-- along a rule and stops at the first byte that may not come has found the offset. Assumes nothing.
use Rattle.std.specs.Prelude.{Bool, true, false, List, [], ◌∷◌, ℕ, zero, suc, ◌+◌, ◌*◌, ◌/◌, ◌^◌}
use Rattle.numbers.specs.Words.{when◌then◌else◌, ◌and◌}
use Rattle.numbers.specs.Numbers.{within}

-- nothing more; or a byte that passes a test, and what follows that byte
pub data Rule : Type 0 where
  end : Rule
  byte : (ℕ → Bool) → (ℕ → Rule) → Rule

-- how many bytes keep the rule, from the left
unfoldable pub reach : Rule → List ℕ → ℕ
reach end s = 0
reach (byte ok next) [] = 0
reach (byte ok next) (b ∷ s) = when ok b then suc (reach (next b) s) else 0

-- the bytes are just what the rule asks for
unfoldable pub takes : Rule → List ℕ → Bool
takes end [] = true
takes end (b ∷ s) = false
takes (byte ok next) [] = false
takes (byte ok next) (b ∷ s) = ok b and takes (next b) s

-- n bytes, whatever they are
unfoldable pub free : ℕ → Rule → Rule
free zero r = r
free (suc n) r = byte (λ b. true) (λ b. free n r)

-- A number from low to high whose first bytes made x, n bytes still to come: with each byte the number so far lies between what low and high have there.
-- What follows may depend on the number.
unfoldable pub between : (n x low high : ℕ) → (ℕ → Rule) → Rule
between zero x low high next = next x
between (suc n) x low high next =
    byte (λ b. within (low / 256 ^ n) (high / 256 ^ n) (x * 256 + b)) (λ b. between n (x * 256 + b) low high next)

-- n bytes that stand for the number v
abbrev pub just : ℕ → ℕ → Rule → Rule
just n v r = between n 0 v v (λ x. r)

-- how many bytes of a number keep its bounds
unfoldable pub number_reach : (n x low high : ℕ) → List ℕ → ℕ
number_reach n x low high s = reach (between n x low high (λ v. end)) s
