-- The journal's calls at the C boundary: the same answers, as numbers. Assumes nothing.
use Rattle.std.specs.Prelude.{◌≡◌, List, [], ◌∷◌, ℕ, Result, Ok, Err}
use Rattle.journal.specs.Calls.{LeftWritten, LeftRead}
use Rattle.journal.specs.Refusals.{fault_number, refusal_number, bad_offset, bad_fault}
use Rattle.journal.specs.declared.Framed.{Framed}
use Rattle.journal.specs.declared.refusal.Fault.{Fault}
use Rattle.journal.specs.declared.refusal.JournalRefusal.{JournalRefusal}
use Rattle.whitherhaul_journal.specs.declared.InNumbers.{InNumbers}

-- an answer as numbers: the refusal's, 0 where the call is done; what was counted, 0 with a refusal; and of a bad frame the offset of its first byte
-- and what is wrong with it, 0 with any other answer
abbrev pub in_numbers : Result ℕ JournalRefusal → InNumbers
in_numbers (Ok n) = record { code = 0; count = n; offset = 0; fault = 0 }
in_numbers (Err why) = record { code = refusal_number why; count = 0; offset = bad_offset why; fault = bad_fault why }

-- a call that writes frames: it returned this number, and left these bytes written and this area
pub record WroteFrames (code bytes : ℕ) (area : List ℕ) (d : LeftWritten) : Type 0 where
  pub code-is : code ≡ (in_numbers d.answer).code
  pub bytes-are : bytes ≡ (in_numbers d.answer).count
  pub area-is : area ≡ d.area

-- a file read: it returned this number, and left entries, offset and fault, this area and these totals
pub record ReadAs (code : ℕ) (answers area totals : List ℕ) (d : LeftRead) : Type 0 where
  pub code-is : code ≡ (in_numbers d.answer).code
  pub answers-are : answers ≡ (in_numbers d.answer).count ∷ (in_numbers d.answer).offset ∷ (in_numbers d.answer).fault ∷ []
  pub area-is : area ≡ d.area
  pub totals-are : totals ≡ d.totals

-- a frame as numbers: what is wrong with its form, or 0, and then the entry's fields, outcome and total, all 0 where something is wrong
abbrev pub framed_numbers : Result Framed Fault → List ℕ
framed_numbers (Ok f) =
    0 ∷ f.entry.client ∷ f.entry.request ∷ f.entry.operation ∷ f.entry.member ∷ f.entry.cents ∷ f.outcome.code
    ∷ f.outcome.total ∷ []
framed_numbers (Err f) = fault_number f ∷ 0 ∷ 0 ∷ 0 ∷ 0 ∷ 0 ∷ 0 ∷ 0 ∷ []

-- the takings
pub record TakenAs (code cents : ℕ) (answer : Result ℕ JournalRefusal) : Type 0 where
  pub code-is : code ≡ (in_numbers answer).code
  pub cents-are : cents ≡ (in_numbers answer).count
