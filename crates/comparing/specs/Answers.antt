-- What a comparison says: nothing where a line and a call agree, else the first part that differs. Assumes nothing.
use Rattle.std.specs.Prelude.{ℕ, Bool, true, false, List, length, take, ◌==◌, nat_eq, nat_le, Option, Some, None, Result, Ok, Err, is_ok}
use Rattle.numbers.specs.Words.{when◌then◌else◌, ◌and◌, ◌or◌}
use Rattle.state.specs.declared.Replica.{Replica}
use Rattle.state.specs.declared.Returned.{Returned}
use Rattle.comparing.specs.Text.{number_at, word_at, run_text, same_bytes}
use Rattle.comparing.specs.Digests.{digest_of}
use Rattle.comparing.specs.Areas.{left_alone}
use Rattle.comparing.specs.Fields.{reports_digest}
use Rattle.state.specs.Answers.{code_of, messages_written, replies_written}
use Rattle.frames.specs.declared.Refusal.{Refusal}
use Rattle.comparing.specs.declared.answer.AnswerPart.{AnswerPart}
use Rattle.comparing.specs.declared.answer.AnswerPart.TheVariants.{Number, Messages, Replies}
use Rattle.comparing.specs.declared.answer.FurtherPart.{FurtherPart}
use Rattle.comparing.specs.declared.answer.FurtherPart.TheVariants.{Nonce, Reports}

-- word k is the first n bytes of an area
unfoldable pub same_front : (line : List ℕ) (k n : ℕ) (area : List ℕ) → Bool
same_front line k n area = nat_le n (length area) and same_bytes (word_at k line) (run_text (take n area))

-- `= code messages replies`: the first of number, messages and replies that differs
unfoldable pub answer_differs : Returned → (line out reps : List ℕ) → Option AnswerPart
answer_differs a line out reps =
    when nat_eq (code_of a) (number_at false 1 line) then
    when same_front line 2 (messages_written a) out then
    when same_front line 3 (replies_written a) reps then None else
    Some Replies else
    Some Messages else
    Some Number

-- bytes behind the messages or the replies, in areas of so many bytes, that aren't as they were
unfoldable pub touched_behind : Returned → (out : List ℕ) (messages : ℕ) (reps : List ℕ) (replies : ℕ) → Option AnswerPart
touched_behind a out messages reps replies =
    when left_alone (messages_written a) messages out then
    when left_alone (replies_written a) replies reps then None else
    Some Replies else
    Some Messages

-- a refused call leaves the memory as it was, whose digest before the call was `before`
unfoldable pub clean_refusal : Returned → (mem : List ℕ) (before : ℕ) → Bool
clean_refusal a mem before = is_ok a.outcome or nat_eq (digest_of mem) before

-- `+ nonce reports`: the first of the two that differs
unfoldable pub further_differs : Replica → (line mem : List ℕ) → Option FurtherPart
further_differs s line mem =
    when nat_eq (number_at false 1 line) s.nonce then
    when number_at true 2 line == reports_digest s mem then None else
    Some Reports else
    Some Nonce

-- `$ sum` is what the call of the takings answered, a sum
unfoldable pub takings_are : Result ℕ Refusal → (line : List ℕ) → Bool
takings_are (Ok cents) line = number_at false 1 line == cents
takings_are (Err k) line = false
