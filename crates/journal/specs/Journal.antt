-- Document 02, the journal of the applied entries: for each entry a frame of 50 bytes: length 4 (always 46), version 1 (always 1), op number 4, the
-- entry 32, outcome 1, total 8. Op numbers run 1, 2, 3; outcome and total are what the fee rules give, from totals of 0. Assumes nothing.
use Rattle.std.specs.Prelude.{List, [], ◌∷◌, ◌++◌, ℕ, suc, drop, replicate}
use Rattle.numbers.specs.Numbers.{big}
use Rattle.numbers.specs.Cells.{cells}
use Rattle.entries.specs.Entries.{entry_of, encode_entry}
use Rattle.entries.specs.declared.Entry.{Entry}
use Rattle.fees.specs.Results.{result_of, encode_result}
use Rattle.fees.specs.declared.Outcome.{Outcome}
use Rattle.model.specs.Book.{results_of}

-- a frame
unfoldable pub journal_frame : (op : ℕ) → Entry → Outcome → List ℕ
journal_frame op e o = big 4 46 ++ big 1 1 ++ big 4 op ++ encode_entry e ++ encode_result o

-- the frames of entries with what each gave, behind those of the first i ops
unfoldable pub frames_after : (i : ℕ) → List Entry → List Outcome → List ℕ
frames_after i [] os = []
frames_after i (e ∷ es) [] = []
frames_after i (e ∷ es) (o ∷ os) = journal_frame (suc i) e o ++ frames_after (suc i) es os

-- the totals of M members before any entry
abbrev pub no_totals : (M : ℕ) → List ℕ
no_totals M = replicate M 0

-- the journal of a list of entries
unfoldable pub journal : (M : ℕ) → List Entry → List ℕ
journal M es = frames_after 0 es (results_of (no_totals M) es)

-- the entry, and the result, that stand in the frame at the front of a run
abbrev pub framed_entry : List ℕ → Entry
framed_entry s = entry_of (drop 9 s)

abbrev pub framed_result : List ℕ → Outcome
framed_result s = result_of (drop 41 s)

-- the entries of the first k frames of a file
abbrev pub filed : ℕ → List ℕ → List Entry
filed k s = cells 50 framed_entry k s
