-- Which byte is wrong, in the words of the order: the offset of the first byte where no well-formed run starts with the bytes up to and including it, or the
-- length where only bytes are missing. `formed` says which runs are well formed. Assumes nothing.
use Rattle.std.specs.Prelude.{◌≡◌, Bool, true, List, ◌++◌, ℕ, suc, ◌≤◌, ◌<◌, length, take}
use Rattle.numbers.specs.Numbers.{Bytes}

-- some well-formed run of bytes begins with w
unfoldable pub Begins : (formed : List ℕ → Bool) (w : List ℕ) → Type 0
Begins formed w = (rest : List ℕ) × Bytes rest × (formed (w ++ rest) ≡ true)

-- the first p bytes begin a well-formed run, and with one more, where there is one, they don't
pub record OffsetIs (formed : List ℕ → Bool) (s : List ℕ) (p : ℕ) : Type 0 where
  pub there : p ≤ length s
  pub good : Begins formed (take p s)
  pub bad : p < length s → Begins formed (take (suc p) s) → ⊥

-- What an answer says with its number: 2 comes with the offset, every other number with 0.
pub record Points (formed : List ℕ → Bool) (s : List ℕ) (number offset : ℕ) : Type 0 where
  pub wrong : Bytes s → number ≡ 2 → OffsetIs formed s offset
  pub none : (number ≡ 2 → ⊥) → offset ≡ 0
