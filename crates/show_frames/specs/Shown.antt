-- What is shown: the fee that each frame with an entry carries, and the number that a frame earns at replica 1 of 3. Assumes nothing.
use Rattle.std.specs.Prelude.{ℕ, Result, Ok, Err}
use Rattle.entries.specs.declared.Entry.{Entry}
use Rattle.config.specs.declared.Setup.{Setup}
use Rattle.frames.specs.declared.Refusal.{Refusal}
use Rattle.frames.specs.Refusals.{number_of}
use Rattle.frames.specs.declared.Message.{Message}

-- a fee of 4500 cents, of member 3
abbrev pub fee_shown : Entry
fee_shown = record { client = 7; request = 0; operation = 1; member = 3; cents = 4500 }

-- replica 1 of 3, L = 8
abbrev pub setup_shown : Setup
setup_shown = record { n = 3; id = 1; timeout = 3; room = 8; members = 8 }

-- the refusal's number, 0: none
unfoldable pub number_shown : Result Message Refusal → ℕ
number_shown (Ok m) = 0
number_shown (Err k) = number_of k
