-- The log in a lent run, 32 bytes an entry: what an append or an install leaves, and the tests of refusals 6 and 7 on a log that is carried in.
-- Assumes nothing.
use Rattle.std.specs.Prelude.{Bool, true, false, List, [], ◌∷◌, ℕ, ◌*◌, leb, eqb, take}
use Rattle.numbers.specs.Words.{◌and◌}
use Rattle.numbers.specs.Numbers.{put_at}
use Rattle.entries.specs.Places.{entry_place}
use Rattle.entries.specs.Rising.{follows, rising}
use Rattle.entries.specs.declared.Entry.{Entry}

-- the bytes of entries after the first n
unfoldable pub with_entries : ℕ → List ℕ → List ℕ → List ℕ
with_entries n es log = put_at (entry_place n) es log

-- no entry of fs breaks with an entry of es, which stand before them
unfoldable pub none_breaks : List Entry → List Entry → Bool
none_breaks [] fs = true
none_breaks (e ∷ es) fs = follows e fs and none_breaks es fs

-- refusal 6, later cause: where es is rising, es and then fs is so exactly where this holds
unfoldable pub rises_after : List Entry → List Entry → Bool
rises_after es fs = none_breaks es fs and rising fs

-- two runs of bytes are equal
unfoldable pub is_same : List ℕ → List ℕ → Bool
is_same [] [] = true
is_same [] (y ∷ ys) = false
is_same (x ∷ xs) [] = false
is_same (x ∷ xs) (y ∷ ys) = eqb x y and is_same xs ys

-- refusal 7 is given where this is false: a log of k entries keeps our first n, all 32 bytes of each
unfoldable pub keeps_first : (n : ℕ) (log : List ℕ) (k : ℕ) (part : List ℕ) → Bool
keeps_first n log k part = leb n k and is_same (take (32 * n) log) (take (32 * n) part)
