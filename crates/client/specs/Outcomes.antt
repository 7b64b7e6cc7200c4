-- Document 01, "Fee rules": the six outcomes that a Reply may tell, by their numbers. Assumes nothing.
use Rattle.std.specs.Prelude.{ℕ, eqb, Result, Ok, Err}
use Rattle.numbers.specs.Words.{when◌then◌else◌}
use Rattle.client.specs.declared.outcome.ReplyOutcome.{ReplyOutcome}
use Rattle.client.specs.declared.outcome.ReplyOutcome.TheVariants.{Fee, Refund, Ask, NoMember, PastLimit, PastTotal}
use Rattle.client.specs.declared.outcome.NoOutcome.{NoOutcome}

-- the document's number of each outcome
abbrev pub outcome_number : ReplyOutcome → ℕ
outcome_number Fee = 1
outcome_number Refund = 2
outcome_number Ask = 3
outcome_number NoMember = 4
outcome_number PastLimit = 5
outcome_number PastTotal = 6

-- the outcome that has this number, or that none has it
unfoldable pub outcome_of : ℕ → Result ReplyOutcome NoOutcome
outcome_of k =
    when eqb k 1 then Ok Fee else
    when eqb k 2 then Ok Refund else
    when eqb k 3 then Ok Ask else
    when eqb k 4 then Ok NoMember else
    when eqb k 5 then Ok PastLimit else
    when eqb k 6 then Ok PastTotal else
    Err (record { 0 = k })
