-- Document 01, "Steps that are easy to misread": a set of replicas is kept as one bit for each replica. The id k is in the set s where
-- the digit of s at 2 ^ k is 1. Quorum is n/2+1 (floor). Assumes nothing.
use Rattle.std.specs.Prelude.{◌≡◌, List, [], ◌∷◌, ◌++◌, ℕ, zero, suc, ◌+◌, ◌/◌, ◌%◌, ◌^◌, eqb, length}
use Rattle.numbers.specs.Words.{when◌then◌else◌}

-- the digit of s at 2 ^ k
abbrev pub bit : ℕ → ℕ → ℕ
bit s k = s / 2 ^ k % 2

-- k is in s
abbrev pub Member : ℕ → ℕ → Type 0
Member k s = bit s k ≡ 1

-- the ids below n that are in s, in rising order
unfoldable pub members : ℕ → ℕ → List ℕ
members zero s = []
members (suc n) s = members n s ++ (when eqb (bit s n) 1 then n ∷ [] else [])

-- how many ids below n are in s: what acks and votes are counted by, so that no other bit counts
unfoldable pub count_below : (n s : ℕ) → ℕ
count_below n s = length (members n s)

-- s with k in it
unfoldable pub with_member : ℕ → ℕ → ℕ
with_member s k = when eqb (bit s k) 1 then s else s + 2 ^ k

-- s with k in it, unless k is the own id: no replica joins the set of those who ask it for a view
unfoldable pub with_another : (s own k : ℕ) → ℕ
with_another s own k = when eqb k own then s else with_member s k

-- more than half of n
abbrev pub quorum_of : ℕ → ℕ
quorum_of n = n / 2 + 1
