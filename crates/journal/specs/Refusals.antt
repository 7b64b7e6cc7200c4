-- The numbers of the journal's refusals and of what is wrong with a frame, as the documents have them. Assumes nothing.
use Rattle.std.specs.Prelude.{ℕ}
use Rattle.journal.specs.declared.refusal.Fault.{Fault}
use Rattle.journal.specs.declared.refusal.Fault.TheVariants as wrong
use Rattle.journal.specs.declared.refusal.JournalRefusal.{JournalRefusal}
use Rattle.journal.specs.declared.refusal.JournalRefusal.TheVariants as refused

abbrev pub fault_number : Fault → ℕ
fault_number wrong.CutShort = 1
fault_number wrong.Length = 2
fault_number wrong.Version = 3
fault_number wrong.OpNumber = 4
fault_number wrong.Entry = 5
fault_number wrong.Outcome = 6
fault_number wrong.Total = 7
fault_number wrong.PastLast = 8

abbrev pub refusal_number : JournalRefusal → ℕ
refusal_number refused.OutOfRange = 1
refusal_number refused.BadEntry = 2
refusal_number refused.TooMany = 4
refusal_number refused.NoRoom = 9
refusal_number (refused.BadFrame offset fault) = 12

-- of a bad frame the offset of its first byte, and what is wrong with it; 0 with any other refusal
abbrev pub bad_offset : JournalRefusal → ℕ
bad_offset (refused.BadFrame offset fault) = offset
bad_offset _ = 0

abbrev pub bad_fault : JournalRefusal → ℕ
bad_fault (refused.BadFrame offset fault) = fault_number fault
bad_fault _ = 0
