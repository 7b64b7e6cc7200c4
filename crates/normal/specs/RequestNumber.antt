-- What a Request calls for, as number and values: refusals 4, 9 and 10 have none; else the number is 0, with 1 or 0 for whether it is answered again, and for whether
-- it is appended; one that is answered again has the outcome and total of its reply besides. Assumes nothing.
use Rattle.std.specs.Prelude.{◌≡◌, not, [], ◌∷◌, ℕ, ltb, leb}
use Rattle.numbers.specs.Words.{when◌then◌else◌, ◌and◌}
use Rattle.entries.specs.declared.Entry.{Entry}
use Rattle.fees.specs.declared.Outcome.{Outcome}
use Rattle.frames.specs.Numbered.{Numbered, numbered}
use Rattle.client_table.specs.Latest.{is_new}
use Rattle.client_table.specs.declared.Latest.{Latest}
use Rattle.client_table.specs.declared.Latest.TheVariants as Row
use Rattle.state.specs.State.{leads}
use Rattle.state.specs.Statuses.{is_normal}
use Rattle.state.specs.declared.Replica.{Replica}
use Rattle.normal.specs.Request.{sends_of, request_verdict}
use Rattle.normal.specs.declared.request.RequestVerdict.{RequestVerdict}
use Rattle.normal.specs.declared.request.RequestVerdict.TheVariants.{Nothing, Resend, Refuse, Append}
use Rattle.frames.specs.Refusals.{number_of}

abbrev pub passed_over : Numbered
passed_over = numbered 0 (0 ∷ 0 ∷ [])

abbrev pub request_number : RequestVerdict → Numbered
request_number Nothing = passed_over
request_number (Resend o) = numbered 0 (1 ∷ 0 ∷ o.code ∷ o.total ∷ [])
request_number (Refuse k) = numbered (number_of k) []
request_number Append = numbered 0 (0 ∷ 1 ∷ [])

-- By the rules. A number that isn't new: the reply that is kept for it, or 10 where the area for replies, of so many bytes, is too short.
unfoldable pub again_numbers : Entry → (request : ℕ) → Outcome → (room : ℕ) → Numbered
again_numbers e request o room =
    when ltb e.request request then passed_over else
    when ltb room 36 then numbered 10 [] else
    numbered 0 (1 ∷ 0 ∷ o.code ∷ o.total ∷ [])

unfoldable pub kept_numbers : Entry → Latest → (room : ℕ) → Numbered
kept_numbers e Row.Nothing room = passed_over
kept_numbers e (Row.Waiting request) room = passed_over
kept_numbers e (Row.Answered request o) room = again_numbers e request o room

-- a new one: 4 where the log has L entries, then 9
unfoldable pub new_numbers : Replica → (out : ℕ) → Numbered
new_numbers s out =
    when leb s.setup.room s.op.0 then numbered 4 [] else
    when ltb out (sends_of s) then numbered 9 [] else
    numbered 0 (0 ∷ 1 ∷ [])

-- only a Normal primary looks at it; out and reps are the sizes of the areas
unfoldable pub request_numbers : Replica → Entry → Latest → (out reps : ℕ) → Numbered
request_numbers s e latest out reps =
    when not (leads s and is_normal s.status) then passed_over else
    when is_new latest e.request then new_numbers s out else
    kept_numbers e latest reps

-- what `request::weigh` promises: the enum, and its number and values
pub record WeighsRequest (s : Replica) (e : Entry) (latest : Latest) (out reps : ℕ) (r : RequestVerdict) : Type 0 where
  pub exact : r ≡ request_verdict s e latest out reps
  pub number : request_number r ≡ request_numbers s e latest out reps
