-- A frame but for the client table, which may have any form: its refusals, whose entry its message carries, and what the table has to follow.
-- Assumes nothing.
use Rattle.std.specs.Prelude.{Option, Some, None, is_some, Result, Err, not, List, ℕ}
use Rattle.numbers.specs.Words.{when◌then◌else◌}
use Rattle.frames.specs.Refusals.{check_frame}
use Rattle.frames.specs.declared.Message.{Message}
use Rattle.frames.specs.declared.Message.TheVariants.{Request, Prepare, PrepareOk, Commit, GetState, NewState, StartViewChange, DoViewChange, StartView, Recovery, RecoveryResponse}
use Rattle.frames.specs.declared.Refusal.{Refusal}
use Rattle.client_table.specs.declared.Latest.{Latest}
use Rattle.client_table.specs.declared.Latest.TheVariants.{Nothing}
use Rattle.client_table.specs.declared.Change.{Change}
use Rattle.state.specs.declared.Returned.{Returned}
use Rattle.state.specs.declared.Replica.{Replica}
use Rattle.outside.specs.Sound.{sound}
use Rattle.outside.specs.declared.Lengths.{Lengths}
use Rattle.state.specs.Answers.{installed_of}
use Rattle.frames.specs.declared.Refusal.TheVariants.{OutOfRange}

-- refusal 1, then 2 to 6 on the frame alone
unfoldable pub checked_of : Replica → Lengths → (frame : List ℕ) → Result Message Refusal
checked_of s l frame =
    when not (sound s l) then Err OutOfRange else
    check_frame s.setup frame

-- the client whose entry a message carries
unfoldable pub carried_by : Message → Option ℕ
carried_by (Request e) = Some e.client
carried_by (Prepare v o c e) = Some e.client
carried_by (PrepareOk v o r) = None
carried_by (Commit v c) = None
carried_by (GetState r v o) = None
carried_by (NewState v a z c) = None
carried_by (StartViewChange v r) = None
carried_by (DoViewChange v r l o c) = None
carried_by (StartView v o c) = None
carried_by (Recovery r x v) = None
carried_by (RecoveryResponse v x r t) = None

-- what the handler is told of a client's latest request: only of him whose entry the message carries
unfoldable pub told_of : Message → Latest → Latest
told_of m l = when is_some (carried_by m) then l else Nothing

-- what a call did to the log, s being the state before it
abbrev pub change_by : Replica → Returned → Change
change_by s a =
    record { installed = installed_of a; op = s.op; commit = s.commit; to = a.state.op; done = a.state.commit }
