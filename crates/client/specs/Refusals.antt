-- Document 01's refusal table, the causes that refuse a client's call: the number of each. Assumes nothing.
use Rattle.std.specs.Prelude.{ℕ, Result, Ok, Err}
use Rattle.client.specs.declared.refusal.ClientRefusal.{ClientRefusal}
use Rattle.client.specs.declared.refusal.ClientRefusal.TheVariants.{OutOfRange, BadEntry, NoNumber, NoRoom}

abbrev pub client_refusal_number : ClientRefusal → ℕ
client_refusal_number OutOfRange = 1
client_refusal_number BadEntry = 2
client_refusal_number NoNumber = 11
client_refusal_number NoRoom = 9

-- the number that a call answers: 0 where it is done, else its cause's
abbrev pub answer_number : {A : Type 0} → Result A ClientRefusal → ℕ
answer_number (Ok x) = 0
answer_number (Err cause) = client_refusal_number cause
