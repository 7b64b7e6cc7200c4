-- The outside calls but for the client table, of which they are told its length and a client's latest request: so the table may have any form. In refusal 1 a
-- row counts as its 25 bytes. Assumes nothing.
use Rattle.std.specs.Prelude.{Option, None, Result, Ok, Err, is_err, ◌≡◌, ℕ, ◌*◌, false, not, List, nat_lt}
use Rattle.numbers.specs.Words.{when◌then◌else◌}
use Rattle.numbers.specs.declared.View.{View}
use Rattle.config.specs.declared.Setup.{Setup}
use Rattle.frames.specs.Refusals.{check_frame}
use Rattle.frames.specs.declared.Message.{Message}
use Rattle.frames.specs.declared.Refusal.{Refusal}
use Rattle.client_table.specs.declared.Latest.{Latest}
use Rattle.client_table.specs.declared.Change.{Change}
use Rattle.state.specs.Answers.{refusal}
use Rattle.state.specs.declared.Returned.{Returned}
use Rattle.state.specs.declared.Replica.{Replica}
use Rattle.book.specs.Memory.{Memory}
use Rattle.steps.specs.Recorded.{Recorded, recorded, Gathering}
use Rattle.handlers.specs.Handlers.{message_step, idle_step}
use Rattle.outside.specs.Sound.{lengths_with, sound}
use Rattle.outside.specs.Calls.{carried_by, told_of, change_by}
use Rattle.outside.specs.Creation.{Started, started_memory, create_step, recover_step}
use Rattle.outside.specs.declared.Lengths.{Lengths}
use Rattle.frames.specs.declared.Refusal.TheVariants.{OutOfRange}

-- the lengths of the lent state buffers, with so many rows in the table
abbrev pub lengths_by : (log results totals acks stored table : ℕ) → Lengths
lengths_by log results totals acks stored table =
    record { log = log; results = results; totals = totals; acks = acks; stored = stored; table = 25 * table }

abbrev pub lengths_in : Memory → (table : ℕ) → Lengths
lengths_in m table = lengths_with m (25 * table)

-- the client whose row a frame asks for
unfoldable pub client_in : Result Message Refusal → Option ℕ
client_in (Err k) = None
client_in (Ok m) = carried_by m

-- on_message, by what refusals 1 to 6 say
unfoldable pub checked_core : Result Message Refusal → Replica → Latest → (frame : List ℕ) → Memory → Recorded
checked_core (Err k) s l frame m = recorded (refusal k s) m
checked_core (Ok y) s l frame m = message_step y s (told_of y l) frame m

-- what its code needs: of a frame that passed, that it passed refusals 2 to 6 and that state and runs are sound
abbrev pub Passes : Result Message Refusal → Replica → (frame : List ℕ) → Memory → Type 0
Passes c s frame m = (y : Message) → c ≡ Ok y → Gathering s m × (check_frame s.setup frame ≡ Ok y)

-- on_idle
unfoldable pub idle_core : Replica → (table : ℕ) → Memory → Recorded
idle_core s table m =
    when not (sound s (lengths_in m table)) then recorded (refusal OutOfRange s) m else
    idle_step s m

-- new, recover
abbrev pub started_in : Memory → Started → Recorded
started_in m d = recorded d.answer (started_memory m d)

unfoldable pub create_core : Setup → (table : ℕ) → Memory → Recorded
create_core u table m = started_in m (create_step u (lengths_in m table) m.runs.money.totals m.acks m.out)

unfoldable pub recover_core : Setup → View → (nonce table : ℕ) → Memory → Recorded
recover_core u v k table m =
    started_in m (recover_step u v k (lengths_in m table) m.runs.money.totals m.acks m.out)

-- what the table has to follow: nothing after a refusal
abbrev pub no_change : Change
no_change =
    record { installed = false; op = record { 0 = 0 }; commit = record { 0 = 0 }; to = record { 0 = 0 }; done = record { 0 = 0 } }

unfoldable pub change_after : Replica → Returned → Change
change_after s a = when is_err a.outcome then no_change else change_by s a

-- the bytes of so many rows, as the code counts them: of more rows than any table has, none
unfoldable pub row_bytes : ℕ → ℕ
row_bytes n = when nat_lt 4096 n then 0 else 25 * n
