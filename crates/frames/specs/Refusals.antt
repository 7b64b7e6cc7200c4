-- Document 01, "Refusal numbers": the number of each cause, and 2, 3, 4, 5, 6 on the frame alone, in this order and in every status. Assumes nothing.
use Rattle.std.specs.Prelude.{not, List, ℕ, leb, ltb, eqb, drop, Result, Ok, Err}
use Rattle.numbers.specs.Words.{when◌then◌else◌, ◌or◌}
use Rattle.entries.specs.Entries.{entries}
use Rattle.entries.specs.Rising.{rising}
use Rattle.entries.specs.declared.Entry.{Entry}
use Rattle.config.specs.declared.Setup.{Setup}
use Rattle.frames.specs.Messages.{parse_frame, carried_of}
use Rattle.frames.specs.declared.Message.{Message}
use Rattle.frames.specs.declared.Carried.{Carried}
use Rattle.frames.specs.declared.Addressed.{Addressed}
use Rattle.frames.specs.declared.Refusal.{Refusal}
use Rattle.frames.specs.declared.Refusal.TheVariants.{OutOfRange, Malformed, NotForUs, PastRoom, PastLog, NotRising, Uncommits, LastView, NoRoomForMessages, NoRoomForReplies}

-- the document's number
abbrev pub number_of : Refusal → ℕ
number_of OutOfRange = 1
number_of (Malformed p) = 2
number_of NotForUs = 3
number_of PastRoom = 4
number_of PastLog = 5
number_of NotRising = 6
number_of Uncommits = 7
number_of LastView = 8
number_of NoRoomForMessages = 9
number_of NoRoomForReplies = 10

-- the offset that comes with it: 2 has one, every other number 0
abbrev pub offset_with : Refusal → ℕ
offset_with OutOfRange = 0
offset_with (Malformed p) = p
offset_with NotForUs = 0
offset_with PastRoom = 0
offset_with PastLog = 0
offset_with NotRising = 0
offset_with Uncommits = 0
offset_with LastView = 0
offset_with NoRoomForMessages = 0
offset_with NoRoomForReplies = 0

-- the whole log that a frame carries; empty where its kind carries none
unfoldable pub whole_log : Carried → List ℕ → List Entry
whole_log x s = entries x.whole (drop x.start s)

-- 3: the addressee is another replica, or the sender is not below n. 4: o or end is above L. 5: c is above o or end. 6: a whole log is not rising.
unfoldable pub refusal_of : Setup → ℕ → Carried → List ℕ → Result (Unit {0}) Refusal
refusal_of u to x s =
    when not (eqb to u.id) or leb u.n x.sender then Err NotForUs else
    when ltb u.room x.op.0 then Err PastRoom else
    when ltb x.op.0 x.commit.0 then Err PastLog else
    when not (rising (whole_log x s)) then Err NotRising else
    Ok tt

-- a refusal of a well-formed frame, or the message
unfoldable pub verdict : Result (Unit {0}) Refusal → Message → Result Message Refusal
verdict (Ok i) m = Ok m
verdict (Err r) m = Err r

unfoldable pub check_parsed : Setup → List ℕ → Result Addressed Refusal → Result Message Refusal
check_parsed u s (Err r) = Err r
check_parsed u s (Ok f) = verdict (refusal_of u f.to (carried_of f.message) s) f.message

unfoldable pub check_frame : Setup → List ℕ → Result Message Refusal
check_frame u s = check_parsed u s (parse_frame s)
