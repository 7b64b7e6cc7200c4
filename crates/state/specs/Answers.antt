-- What a call of a handler answers: the state, and either the refusal or the bytes written to the two areas; and document 01's numbers of it. Assumes nothing.
use Rattle.std.specs.Prelude.{Bool, false, ℕ, Result, Ok, Err}
use Rattle.frames.specs.Refusals.{number_of, offset_with}
use Rattle.frames.specs.declared.Refusal.{Refusal}
use Rattle.state.specs.declared.Output.{Output}
use Rattle.state.specs.declared.Replica.{Replica}
use Rattle.state.specs.declared.Returned.{Returned}

-- a refusal, and the state as it was
abbrev pub refusal : Refusal → Replica → Returned
refusal k s = record { state = s; outcome = Err k }

-- done: the new state, how many bytes of messages and of replies were written, and whether a log was installed
abbrev pub completed : Replica → (messages replies : ℕ) → Bool → Returned
completed s m r i = record { state = s; outcome = Ok (record { messages = m; replies = r; installed = i }) }

-- done, and nothing sent
abbrev pub quiet : Replica → Returned
quiet s = completed s 0 0 false

-- ---- in numbers: a refusal returns its number with counts of 0; 0 means done

abbrev pub outcome_code : Result Output Refusal → ℕ
outcome_code (Ok d) = 0
outcome_code (Err k) = number_of k

abbrev pub code_of : Returned → ℕ
code_of a = outcome_code a.outcome

abbrev pub messages_in_outcome : Result Output Refusal → ℕ
messages_in_outcome (Ok d) = d.messages
messages_in_outcome (Err k) = 0

abbrev pub messages_written : Returned → ℕ
messages_written a = messages_in_outcome a.outcome

abbrev pub replies_in_outcome : Result Output Refusal → ℕ
replies_in_outcome (Ok d) = d.replies
replies_in_outcome (Err k) = 0

abbrev pub replies_written : Returned → ℕ
replies_written a = replies_in_outcome a.outcome

-- whether a log was installed
abbrev pub installed_in_outcome : Result Output Refusal → Bool
installed_in_outcome (Ok d) = d.installed
installed_in_outcome (Err k) = false

abbrev pub installed_of : Returned → Bool
installed_of a = installed_in_outcome a.outcome

-- the offset that comes with a refusal, else 0
abbrev pub offset_in_outcome : Result Output Refusal → ℕ
offset_in_outcome (Ok d) = 0
offset_in_outcome (Err k) = offset_with k

abbrev pub offset_of_answer : Returned → ℕ
offset_of_answer a = offset_in_outcome a.outcome
