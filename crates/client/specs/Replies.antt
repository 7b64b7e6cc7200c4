-- Document 01, "Frames", kind 12, read by the desk: a Reply is 36 bytes, its length field is 32, version 1, kind 12, addressee 0, then
-- v client request outcome total(8), and the outcome is one of the six of "Fee rules". Anything else is malformed: 2. Assumes nothing.
use Rattle.std.specs.Prelude.{◌≡◌, Bool, List, [], ◌∷◌, ℕ, eqb, length, Result, Ok, Err}
use Rattle.std.specs.Result.{result_map_both}
use Rattle.numbers.specs.Words.{when◌then◌else◌, ◌and◌}
use Rattle.numbers.specs.Numbers.{num, view_at, within}
use Rattle.offsets.specs.Rules.{Rule, end, reach, free, between, just}
use Rattle.offsets.specs.Offsets.{Points}
use Rattle.frames.specs.Kinds.{kind_of}
use Rattle.frames.specs.Numbered.{Numbered, numbered, in_turn}
use Rattle.client.specs.declared.outcome.ReplyOutcome.{ReplyOutcome}
use Rattle.client.specs.declared.ReplyFields.{ReplyFields}
use Rattle.client.specs.declared.Malformed.{Malformed}
use Rattle.client.specs.Outcomes.{outcome_number, outcome_of}

-- a Reply's length, length field, version, kind and addressee
unfoldable pub reply_framed : List ℕ → Bool
reply_framed s =
    eqb (length s) 36
    and eqb (num 4 0 s) 32
    and eqb (num 1 4 s) 1
    and eqb (kind_of s) 12
    and eqb (num 1 6 s) 0

-- malformed exactly where this is false
unfoldable pub reply_ok : List ℕ → Bool
reply_ok s = reply_framed s and within 1 6 (num 1 27 s)

-- what may stand at each place: length 32, version 1, kind 12, addressee 0, then v client request outcome total
unfoldable pub reply_rule : Rule
reply_rule = just 4 32 (just 1 1 (just 1 12 (just 1 0 (free 20 (between 1 0 1 6 (λ o. free 8 end))))))

-- how many bytes keep that from the left: of a malformed Reply the offset of the first wrong byte, or its length where only bytes are missing
unfoldable pub reply_offset : List ℕ → ℕ
reply_offset s = reach reply_rule s

abbrev pub malformed : List ℕ → Malformed
malformed s = record { offset = reply_offset s }

-- what the frame says, by its outcome
abbrev pub reply_said : List ℕ → ReplyOutcome → ReplyFields
reply_said s o = record { view = view_at 7 s; client = num 8 11 s; request = num 8 19 s; outcome = o; total = num 8 28 s }

-- where `reply_ok` is true the byte at 27 is an outcome's number
unfoldable pub read_reply : List ℕ → Result ReplyFields Malformed
read_reply s =
    when reply_ok s
    then result_map_both (reply_said s) (λ _. malformed s) (outcome_of (num 1 27 s))
    else Err (malformed s)

-- ---- the number and the values

-- 0 with view, client, request, outcome and total, or refusal 2
abbrev pub read_number : Result ReplyFields Malformed → Numbered
read_number (Ok r) = numbered 0 (r.view.0 ∷ r.client ∷ r.request ∷ outcome_number r.outcome ∷ r.total ∷ [])
read_number (Err m) = numbered 2 []

-- with 2 the offset, else 0
abbrev pub read_offset : Result ReplyFields Malformed → ℕ
read_offset (Ok r) = 0
read_offset (Err m) = m.offset

-- the same by the frame's bytes: v has 4 bytes, client, request and total 8 each, the outcome one
unfoldable pub read_numbers : List ℕ → Numbered
read_numbers s = when reply_ok s then numbered 0 (in_turn (4 ∷ 8 ∷ 8 ∷ 1 ∷ 8 ∷ []) 7 s) else numbered 2 []

-- what `read_reply` promises: the answer, its number and values, and where a malformed Reply is wrong
pub record Reads (s : List ℕ) (r : Result ReplyFields Malformed) : Type 0 where
  pub exact : r ≡ read_reply s
  pub number : read_number r ≡ read_numbers s
  pub points : Points reply_ok s (read_number r).number (read_offset r)
