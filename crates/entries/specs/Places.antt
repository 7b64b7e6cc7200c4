-- Where an op has its cell in the lent runs of log, results and acks: the cell of op number i + 1, which comes after the first i, is the i-th,
-- counted from 0; 32 bytes a cell in the log, 9 in the results, 1 in the acks. Only here is it said. Assumes nothing.
use Rattle.std.specs.Prelude.{List, ℕ, ◌*◌, drop}
use Rattle.entries.specs.Entries.{entry_of}
use Rattle.entries.specs.declared.Entry.{Entry}

-- the cell of op number i + 1
abbrev pub cell_of : ℕ → ℕ
cell_of i = i

-- where its entry begins in the log
abbrev pub entry_place : ℕ → ℕ
entry_place i = 32 * cell_of i

-- where its result begins in the results
abbrev pub result_place : ℕ → ℕ
result_place i = 9 * cell_of i

-- where its row of acks stands
abbrev pub ack_place : ℕ → ℕ
ack_place i = cell_of i

-- its entry
abbrev pub entry_in : List ℕ → ℕ → Entry
entry_in log i = entry_of (drop (entry_place i) log)
