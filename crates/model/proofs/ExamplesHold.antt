-- The examples hold: antt computes them. Assumes nothing.
use mathlib.Core.Path.{◌≡◌, refl}
use mathlib.Core.List.{[], ◌∷◌, ◌++◌}
use mathlib.Core.Option.{none, some}
use Rattle.fees.specs.Fees.{gives}
use Rattle.model.specs.State.Answer.{done}
use Rattle.model.specs.Book.{table_of}
use Rattle.model.specs.Normal.{on_prepare_ok}
use Rattle.model.specs.Examples.{AllHold, setup, table_row, answer, answer_seen}
use Rattle.model.specs.Marked.{marked, asked_once, once, first_ack}
use Rattle.model.specs.Directed.{AllRun, fee}
use Rattle.model.specs.Misread.{four_acked, misread}
use Rattle.model.specs.Surprises.{surprises}
use Rattle.model.proofs.Open.{open-marked, open-misread, open-surprises}
use Rattle.model.specs.Examples.Event.{idle}
use Rattle.model.specs.ExampleFrames.{heartbeats, prepares}

-- the marked examples of document 01 with *
pub marked-hold : AllHold marked
unfolding open-marked
marked-hold = (refl, (refl, (refl, (refl, (refl, (refl, (refl, tt)))))))

-- the directed ones
pub misread-hold : AllRun misread
unfolding open-misread
misread-hold = (refl, (refl, (refl, (refl, (refl, (refl, (refl, (refl, (refl, (refl, (refl, (refl, (refl, (refl, tt))))))))))))))

pub surprises-hold : AllRun surprises
unfolding open-surprises
surprises-hold = (refl, (refl, (refl, (refl, (refl, (refl, (refl, (refl, (refl, (refl, (refl, (refl, (refl, (refl, (refl, (refl, (refl, (refl, tt))))))))))))))))))

-- The table of a log: a later entry of a client overwrites its row, and the reply with it, though the earlier one is committed.
pub later-entry : table_of (fee 1 5 10 ∷ fee 2 0 20 ∷ fee 1 6 7 ∷ []) (gives 1 10 ∷ gives 1 30 ∷ []) 2 ≡ table_row 1 6 none ∷ table_row 2 0 (some (gives 1 30)) ∷ []
unfolding open-misread
later-entry = refl

-- An ack fires only when the count reaches the quorum exactly: the fifth of five is kept and commits nothing. No call leads to four acks of an op
-- that isn't committed, so it is said of the handler alone.
pub past-quorum : on_prepare_ok (setup 5 0 3 8) (four_acked 15) 0 1 4 ≡ done (four_acked 31) [] []
unfolding open-misread
past-quorum = refl

-- A reply is one to a committed entry. No call leads to more results than there are committed entries, so it is said of the table alone.
pub uncommitted-entry : table_of (fee 1 5 10 ∷ []) (gives 1 10 ∷ []) 0 ≡ table_row 1 5 none ∷ []
unfolding open-misread
uncommitted-entry = refl

-- A primary's tick sends the heartbeat, and prepares again what isn't committed.
pub prepares-again : (answer_seen (asked_once first_ack once) (answer (setup 3 0 3 8) (asked_once first_ack once) idle)).messages ≡ heartbeats ++ prepares
unfolding open-marked
prepares-again = refl
