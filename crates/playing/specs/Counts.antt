-- What is known of a trace so far, and each change of it. Counts are kept to 64 bits. Assumes nothing.
use Rattle.std.specs.Prelude.{ℕ, ◌+◌, ◌%◌, ◌^◌, Bool, true, false, Option, Some, None, is_err, ◌==◌, ◌&&◌, if◌then◌else◌}
use Rattle.state.specs.declared.Returned.{Returned}
use Rattle.playing.specs.declared.Due.{Due}
use Rattle.playing.specs.declared.Due.TheVariants.{Answer, State}
use Rattle.playing.specs.declared.LastCall.{LastCall}
use Rattle.playing.specs.declared.Run.{Run}
use Rattle.playing.specs.declared.Play.{Play}

-- one more
abbrev pub next_of : ℕ → ℕ
next_of x = (x + 1) % 2 ^ 64

-- before the first line
abbrev pub no_play : Play
no_play =
    record { line = 0; titled = false; run = None; tally = record { runs = 0; calls = 0; further = 0; takings = 0; differ = 0; clients = 0; larger = 0 } }

-- at the next line
abbrev pub next_line : Play → Play
next_line p = record p { line = next_of p.line }

-- the run differs: it is counted, and the rest of it is passed over
abbrev pub ended : Play → Play
ended p = record p { titled = false; run = None; tally = record (p.tally) { differ = next_of p.tally.differ } }

-- what a run waits for
abbrev pub due_in : Option Run → Option Due
due_in None = None
due_in (Some r) = r.due

-- what the run that is played still waits for
abbrev pub waiting : Play → Option Due
waiting p = due_in p.run

-- the run is over
abbrev pub closed : Play → Play
closed p = record p { titled = false; run = None }

-- a title stands there
abbrev pub titled_now : Play → Play
titled_now p = record p { titled = true }

-- a run begins, by a creation that was called: its answer is due
abbrev pub run_begun : Play → LastCall → Play
run_begun p last =
    record p { run = Some (record { due = Some Answer; created = true; last = last; here = 0 }); tally = record (p.tally) { runs = next_of p.tally.runs } }

-- the run's replica was called: an answer is due
abbrev pub going_on : Play → Run → LastCall → Play
going_on p r last = record p { run = Some (record r { due = Some Answer; created = false; last = last }) }

-- a run that there is no room for
abbrev pub too_large : Play → Play
too_large p = record p { titled = false; tally = record (p.tally) { larger = next_of p.tally.larger } }

-- a client's run
abbrev pub a_client : Play → Play
a_client p = record p { tally = record (p.tally) { clients = next_of p.tally.clients } }

-- a call was refused
abbrev pub was_refused : Returned → Bool
was_refused a = is_err a.outcome

-- a state is due, but after a refused creation
abbrev pub state_due : Run → Option Due
state_due r = if r.created && was_refused r.last.answer then None else Some State

-- an answer is right: the call is counted, but for a creation
abbrev pub right : Play → Run → Play
right p r =
    if r.created
    then record p { run = Some (record r { due = state_due r }) }
    else record p { run = Some (record r { due = state_due r; here = next_of r.here }); tally = record (p.tally) { calls = next_of p.tally.calls } }

-- a state is right: nothing is due
abbrev pub state_right : Play → Run → Play
state_right p r = record p { run = Some (record r { due = None }) }

-- nonce and reports behind a state are right
abbrev pub further_right : Play → Play
further_right p = record p { tally = record (p.tally) { further = next_of p.tally.further } }

-- the takings behind a state are right
abbrev pub takings_right : Play → Play
takings_right p = record p { tally = record (p.tally) { takings = next_of p.tally.takings } }
