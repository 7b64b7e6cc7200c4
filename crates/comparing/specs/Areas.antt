-- The lent runs, kept one behind the other in one array with room for n = 7, L = 8 and M = 8, and what a call has to leave alone. Assumes nothing.
use Rattle.std.specs.Prelude.{ℕ, ◌+◌, ◌-◌, Bool, leb, List, length, take, drop, replicate, nat_le, ◌==◌}
use Rattle.std.specs.List.{list_all}
use Rattle.numbers.specs.Words.{when◌then◌else◌, ◌and◌}
use Rattle.numbers.specs.Numbers.{over, put_at}

-- the run at a place, over an area of its length; the area as it was where there is none
unfoldable pub fetched_at : (a : ℕ) (memory area : List ℕ) → List ℕ
fetched_at a memory area = when nat_le (a + length area) (length memory) then take (length area) (drop a memory) else area

-- a run put at a place; the memory as it was where there is no room
unfoldable pub stored_at : (a : ℕ) (run memory : List ℕ) → List ℕ
stored_at a run memory = when nat_le (a + length run) (length memory) then put_at a run memory else memory

-- n bytes of an area set to 165, which no call writes by chance
unfoldable pub spoilt_to : (n : ℕ) → List ℕ → List ℕ
spoilt_to n area = when nat_le n (length area) then over (replicate n 165) area else area

-- whether all bytes are 165
abbrev pub all_spoilt : List ℕ → Bool
all_spoilt s = list_all (λ b. b == 165) s

-- whether the bytes from one place to another are there, and all 165
unfoldable pub left_alone : (from to : ℕ) → List ℕ → Bool
left_alone from to area = leb to (length area) and leb from to and all_spoilt (take (to - from) (drop from area))
