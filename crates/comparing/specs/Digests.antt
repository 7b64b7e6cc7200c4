-- FORMAT.md: FNV-1a digests of 64 bits, offset basis cbf29ce484222325, prime 100000001b3. Assumes nothing.
use Rattle.std.specs.Prelude.{ℕ, ◌+◌, ◌*◌, ◌%◌, ◌^◌, List, [], length, take, drop, bit_xor, nat_le, fold}
use Rattle.numbers.specs.Words.{when◌then◌else◌}

-- the offset basis
abbrev pub offset_basis : ℕ
offset_basis = 14695981039346656037

-- one byte more
unfoldable pub hashed : (h b : ℕ) → ℕ
hashed h b = bit_xor h b * 1099511628211 % 2 ^ 64

-- the digest h with more bytes
abbrev pub digest_after : (h : ℕ) → List ℕ → ℕ
digest_after h s = fold hashed h s

-- the digest of bytes
abbrev pub digest_of : List ℕ → ℕ
digest_of s = digest_after offset_basis s

-- n bytes from a place on, where there are so many
unfoldable pub part_at : (a n : ℕ) → List ℕ → List ℕ
part_at a n s = when nat_le (a + n) (length s) then take n (drop a s) else []
