-- Document 01, "Form by location": for each answer that is an enum, the document's number and values for each of the enum's cases. Of a message the values are
-- its kind and its fields, in the order of the frame table; of an entry its client, request, operation, member and cents. What number and values a frame
-- earns is said here from its bytes alone, by the frame table and the refusal table; the contracts promise both. Assumes nothing.
use Rattle.std.specs.Prelude.{◌≡◌, not, List, [], ◌∷◌, ◌++◌, ℕ, ◌+◌, eqb, leb, ltb, drop, Option, Some, None, Result, Ok, Err}
use Rattle.numbers.specs.Words.{when◌then◌else◌, ◌or◌}
use Rattle.numbers.specs.Numbers.{num}
use Rattle.entries.specs.Entries.{entries}
use Rattle.entries.specs.Rising.{rising}
use Rattle.entries.specs.declared.Entry.{Entry}
use Rattle.config.specs.declared.Setup.{Setup}
use Rattle.offsets.specs.Offsets.{Points}
use Rattle.frames.specs.Kinds.{kind_of, response_mark, room_of, count_of, well_formed}
use Rattle.frames.specs.Messages.{parse_frame}
use Rattle.frames.specs.Refusals.{number_of, offset_with, check_frame}
use Rattle.frames.specs.declared.Progress.{Progress}
use Rattle.frames.specs.declared.Message.{Message}
use Rattle.frames.specs.declared.Message.TheVariants.{Request, Prepare, PrepareOk, Commit, GetState, NewState, StartViewChange, DoViewChange, StartView, Recovery, RecoveryResponse}
use Rattle.frames.specs.declared.Addressed.{Addressed}
use Rattle.frames.specs.declared.Refusal.{Refusal}

-- an answer as the document's number and the values that come with it
pub record Numbered : Type 0 where
  pub number : ℕ
  pub values : List ℕ

abbrev pub numbered : ℕ → List ℕ → Numbered
numbered k xs = record { number = k; values = xs }

-- ---- by the cases of the enums

abbrev pub entry_values : Entry → List ℕ
entry_values e = e.client ∷ e.request ∷ e.operation ∷ e.member ∷ e.cents ∷ []

-- 0, or 1 o c
unfoldable pub state_values : Option Progress → List ℕ
state_values None = 0 ∷ []
state_values (Some p) = 1 ∷ p.op.0 ∷ p.commit.0 ∷ []

-- the kind and the fields
unfoldable pub fields_of : Message → List ℕ
fields_of (Request e) = 1 ∷ entry_values e
fields_of (Prepare v o c e) = 2 ∷ v.0 ∷ o.0 ∷ c.0 ∷ entry_values e
fields_of (PrepareOk v o r) = 3 ∷ v.0 ∷ o.0 ∷ r ∷ []
fields_of (Commit v c) = 4 ∷ v.0 ∷ c.0 ∷ []
fields_of (GetState r v o) = 5 ∷ r ∷ v.0 ∷ o.0 ∷ []
fields_of (NewState v a z c) = 6 ∷ v.0 ∷ a.0 ∷ z.0 ∷ c.0 ∷ []
fields_of (StartViewChange v r) = 7 ∷ v.0 ∷ r ∷ []
fields_of (DoViewChange v r l o c) = 8 ∷ v.0 ∷ r ∷ l.0 ∷ o.0 ∷ c.0 ∷ []
fields_of (StartView v o c) = 9 ∷ v.0 ∷ o.0 ∷ c.0 ∷ []
fields_of (Recovery r x v) = 10 ∷ r ∷ x ∷ v.0 ∷ []
fields_of (RecoveryResponse v x r t) = 11 ∷ v.0 ∷ x ∷ r ∷ state_values t

-- 0 with the addressee and the message, or refusal 2
abbrev pub parsed_number : Result Addressed Refusal → Numbered
parsed_number (Ok f) = numbered 0 (f.to ∷ fields_of f.message)
parsed_number (Err r) = numbered (number_of r) []

-- 0 with the message, or the refusal
abbrev pub checked_number : Result Message Refusal → Numbered
checked_number (Ok m) = numbered 0 (fields_of m)
checked_number (Err r) = numbered (number_of r) []

-- the offset that comes with it
abbrev pub parsed_offset : Result Addressed Refusal → ℕ
parsed_offset (Ok f) = 0
parsed_offset (Err r) = offset_with r

abbrev pub checked_offset : Result Message Refusal → ℕ
checked_offset (Ok m) = 0
checked_offset (Err r) = offset_with r

-- ---- by the frame's bytes

-- the numbers of these widths, each straight after the one before it, from place a on
unfoldable pub in_turn : List ℕ → ℕ → List ℕ → List ℕ
in_turn [] a s = []
in_turn (k ∷ ks) a s = num k a s ∷ in_turn ks (a + k) s

-- an entry from place a on: client and request, operation, and past three bytes member and cents
abbrev pub entry_numbers : ℕ → List ℕ → List ℕ
entry_numbers a s = in_turn (8 ∷ 8 ∷ 1 ∷ []) a s ++ in_turn (4 ∷ 8 ∷ []) (a + 20) s

-- The kind and the fields of kind k, by the frame table: v, o and c have 4 bytes each, r one, x 8. After the sender of kind 11 comes 0, or 1 and o c.
unfoldable pub fields_in : ℕ → List ℕ → List ℕ
fields_in k s =
    k ∷
    (when eqb k 1 then entry_numbers 7 s else
    when eqb k 2 then in_turn (4 ∷ 4 ∷ 4 ∷ []) 7 s ++ entry_numbers 19 s else
    when eqb k 3 then in_turn (4 ∷ 4 ∷ 1 ∷ []) 7 s else
    when eqb k 4 then in_turn (4 ∷ 4 ∷ []) 7 s else
    when eqb k 5 then in_turn (1 ∷ 4 ∷ 4 ∷ []) 7 s else
    when eqb k 6 then in_turn (4 ∷ 4 ∷ 4 ∷ 4 ∷ []) 7 s else
    when eqb k 7 then in_turn (4 ∷ 1 ∷ []) 7 s else
    when eqb k 8 then in_turn (4 ∷ 1 ∷ 4 ∷ 4 ∷ 4 ∷ []) 7 s else
    when eqb k 9 then in_turn (4 ∷ 4 ∷ 4 ∷ []) 7 s else
    when eqb k 10 then in_turn (1 ∷ 8 ∷ 4 ∷ []) 7 s else
    in_turn (4 ∷ 8 ∷ 1 ∷ []) 7 s ++ (when eqb (response_mark s) 1 then 1 ∷ in_turn (4 ∷ 4 ∷ []) 21 s else 0 ∷ []))

-- the sender; 0, which is below every n, where the kind names none
unfoldable pub sender_in : ℕ → List ℕ → ℕ
sender_in k s =
    when eqb k 3 then num 1 15 s else
    when eqb k 5 or eqb k 10 then num 1 7 s else
    when eqb k 7 or eqb k 8 then num 1 11 s else
    when eqb k 11 then num 1 19 s else
    0

-- the carried o (kinds 2, 3, 5, 8, 9, 11) or end (6); 0 where there is none
unfoldable pub op_in : ℕ → List ℕ → ℕ
op_in k s =
    when eqb k 2 or eqb k 3 or eqb k 9 then num 4 11 s else
    when eqb k 5 then num 4 12 s else
    when eqb k 6 then num 4 15 s else
    when eqb k 8 then num 4 16 s else
    when eqb k 11 then (when eqb (response_mark s) 1 then num 4 21 s else 0) else
    0

-- the carried c that o bounds (kinds 8, 9, 11) or end (6); 0 where there is none
unfoldable pub commit_in : ℕ → List ℕ → ℕ
commit_in k s =
    when eqb k 6 then num 4 19 s else
    when eqb k 8 then num 4 20 s else
    when eqb k 9 then num 4 15 s else
    when eqb k 11 then (when eqb (response_mark s) 1 then num 4 25 s else 0) else
    0

-- the whole carried log (kinds 8, 9, 11); empty where there is none
unfoldable pub log_in : ℕ → List ℕ → List Entry
log_in k s = when eqb k 8 or eqb k 9 or eqb k 11 then entries (count_of k s) (drop (room_of k s) s) else []

-- the first refusal that the frame alone earns, in the order of the refusal table; 0: none
unfoldable pub earned_by : Setup → List ℕ → ℕ
earned_by u s =
    when not (well_formed s) then 2 else
    when not (eqb (num 1 6 s) u.id) or leb u.n (sender_in (kind_of s) s) then 3 else
    when ltb u.room (op_in (kind_of s) s) then 4 else
    when ltb (op_in (kind_of s) s) (commit_in (kind_of s) s) then 5 else
    when not (rising (log_in (kind_of s) s)) then 6 else
    0

unfoldable pub parse_numbers : List ℕ → Numbered
parse_numbers s = when well_formed s then numbered 0 (num 1 6 s ∷ fields_in (kind_of s) s) else numbered 2 []

unfoldable pub check_numbers : Setup → List ℕ → Numbered
check_numbers u s = numbered (earned_by u s) (when eqb (earned_by u s) 0 then fields_in (kind_of s) s else [])

-- ---- what `parse` and `check` promise: the enum, its number and values, and where a malformed frame is wrong

pub record Parses (s : List ℕ) (r : Result Addressed Refusal) : Type 0 where
  pub exact : r ≡ parse_frame s
  pub number : parsed_number r ≡ parse_numbers s
  pub points : Points well_formed s (parsed_number r).number (parsed_offset r)

pub record Checks (u : Setup) (s : List ℕ) (r : Result Message Refusal) : Type 0 where
  pub exact : r ≡ check_frame u s
  pub number : checked_number r ≡ check_numbers u s
  pub points : Points well_formed s (checked_number r).number (checked_offset r)
