-- Document 01, "Frames", and refusal 2 on a frame. A frame: length (4 bytes, of what follows), version 1, kind, addressee, fields.
-- All places are counted from the frame's first byte. Assumes nothing.
use Rattle.std.specs.Prelude.{◌≡◌, Bool, true, false, Option, Some, None, List, [], ◌∷◌, ℕ, ◌+◌, ◌-◌, ◌*◌, leb, eqb, length, get_or, drop}
use Rattle.numbers.specs.Words.{when◌then◌else◌, ◌and◌}
use Rattle.numbers.specs.Numbers.{num, within}
use Rattle.entries.specs.Entries.{entries_ok}
use Rattle.frames.specs.declared.Kind.{Kind}
use Rattle.frames.specs.declared.Kind.TheVariants.{Request, Prepare, PrepareOk, Commit, GetState, NewState, StartViewChange, DoViewChange, StartView, Recovery, RecoveryResponse}

-- the number of each kind
abbrev pub kind_number : Kind → ℕ
kind_number Request = 1
kind_number Prepare = 2
kind_number PrepareOk = 3
kind_number Commit = 4
kind_number GetState = 5
kind_number NewState = 6
kind_number StartViewChange = 7
kind_number DoViewChange = 8
kind_number StartView = 9
kind_number Recovery = 10
kind_number RecoveryResponse = 11

-- where a test is passed the kind that has number k, where it isn't none
abbrev pub KindIf : (test : Bool) (k : ℕ) → Option Kind → Type 0
KindIf b k None = b ≡ false
KindIf b k (Some kind) = (b ≡ true) × (kind_number kind ≡ k)

-- the kind that a frame names
abbrev pub kind_of : List ℕ → ℕ
kind_of s = num 1 5 s

-- The table of kinds, from 0 on: where the fields end, counted from the frame's first byte (document 01's lengths count what follows the
-- length's four bytes). There the entries begin; where there are none, the frame ends. Of kind 11 without a log.
abbrev pub fields_end : ℕ → ℕ
fields_end k = get_or (0 ∷ 7 ∷ 19 ∷ 16 ∷ 15 ∷ 16 ∷ 23 ∷ 12 ∷ 24 ∷ 19 ∷ 20 ∷ 21 ∷ []) k 0

-- the mark of kind 11: 1 with a log, 0 without
abbrev pub response_mark : List ℕ → ℕ
response_mark s = num 1 20 s

-- where the fields of kind 11 end with a log: o and c follow the mark
abbrev pub state_end : ℕ
state_end = fields_end 11 + 8

-- where the fields of this frame end
unfoldable pub room_of : ℕ → List ℕ → ℕ
room_of k s = when eqb k 11 then (when eqb (response_mark s) 1 then state_end else fields_end 11) else fields_end k

-- NewState: start is at most end. RecoveryResponse: its mark is 0 or 1.
unfoldable pub fields_ok : ℕ → List ℕ → Bool
fields_ok k s =
    when eqb k 6 then leb (num 4 11 s) (num 4 15 s) else
    when eqb k 11 then leb (response_mark s) 1 else
    true

-- how many entries the frame says that it carries
unfoldable pub count_of : ℕ → List ℕ → ℕ
count_of k s =
    when eqb k 1 then 1 else
    when eqb k 2 then 1 else
    when eqb k 6 then num 4 15 s - num 4 11 s else
    when eqb k 8 then num 4 16 s else
    when eqb k 9 then num 4 11 s else
    when eqb k 11 then (when eqb (response_mark s) 1 then num 4 21 s else 0) else
    0

-- the length says what follows it, and the version is 1
unfoldable pub head_ok : List ℕ → Bool
head_ok s = leb 7 (length s) and eqb (num 4 0 s + 4) (length s) and eqb (num 1 4 s) 1

-- a kind from 1 to 11, exactly its fields and its entries, and each entry keeps the rules
unfoldable pub body_ok : ℕ → List ℕ → Bool
body_ok k s =
    within 1 11 k
    and fields_ok k s
    and eqb (length s) (room_of k s + 32 * count_of k s)
    and entries_ok (count_of k s) (drop (room_of k s) s)

-- refusal 2 is given exactly where this is false
unfoldable pub well_formed : List ℕ → Bool
well_formed s = head_ok s and body_ok (kind_of s) s
