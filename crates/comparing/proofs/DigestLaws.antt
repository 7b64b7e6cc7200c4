-- The product with the prime as a sum of shifts, and turns of the loop over bytes. Assumes nothing.
use Rattle.std.proofs.Common.{◌≡◌, ℕ, ◌+◌, ◌<◌, ◌≤◌, List, [], ◌∷◌, ◌++◌, length, take, drop, refl, le-leb}
use borrow.Author.Tests.{lt-leb}
use Rattle.numbers.specs.Words.{when◌then◌else◌}
use Rattle.comparing.specs.Digests.{hashed, digest_after, part_at}

-- bytes one after the other
pub digest-append : (h : ℕ) (s t : List ℕ) → digest_after h (s ++ t) ≡ digest_after (digest_after h s) t
digest-append h [] t = refl
digest-append h (b ∷ bs) t = digest-append (hashed h b) bs t

-- a part that isn't there
pub part_none : (h : ℕ) (s : List ℕ) (a n : ℕ) → length s < a + n → h ≡ digest_after h (part_at a n s)
unfolding part_at when◌then◌else◌
part_none h s a n l = rw (lt-leb (a + n) (length s) l)

-- one that is
pub part-some : (h : ℕ) (s : List ℕ) (a n : ℕ) → a + n ≤ length s → digest_after h (take n (drop a s)) ≡ digest_after h (part_at a n s)
unfolding part_at when◌then◌else◌
part-some h s a n l = rw (le-leb (a + n) (length s) l)
