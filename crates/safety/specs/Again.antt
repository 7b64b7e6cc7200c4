-- What order 6 of document 02 gives the desk, over the calls that demand 3 speaks of: a request whose entry is applied and is its client's latest in
-- the log is answered when it is asked again of a Normal primary. Assumes nothing.
use Rattle.std.specs.Prelude.{Ok, ℕ, ◌≤◌, ◌<◌, ◌≡◌, true, List, [], ◌∷◌, take, get_or}
use Rattle.entries.specs.declared.Entry.{Entry}
use Rattle.config.specs.declared.Setup.{Setup}
use Rattle.frames.specs.Refusals.{check_frame}
use Rattle.frames.specs.declared.Message.TheVariants.{Request}
use Rattle.state.specs.Statuses.{is_normal}
use Rattle.model.specs.State.{State, Reply}
use Rattle.model.specs.State.Answer.{done}
use Rattle.model.specs.Book.{outcome, through}
use Rattle.model.specs.Sending.{is_primary}
use Rattle.safety.specs.Demand.{answer, zeros}
use Rattle.safety.specs.Demand.Call.{frame}
use Rattle.safety.specs.Remembered.{LastAt}

-- The frame s asks a Normal primary again for the entry at place i of its log, which is applied and its client's latest.
pub record AskedAgain (u : Setup) (m : State) (s : List ℕ) (d : Entry) (i : ℕ) : Type 0 where
  pub primary : is_primary u m ≡ true
  pub normal : is_normal m.place.status ≡ true
  pub applied : i < m.book.commit
  pub latest : LastAt m.book.log i
  pub asked : Entry
  pub passed : check_frame u s ≡ Ok (Request asked)
  pub client : asked.client ≡ (get_or m.book.log i d).client
  pub request : asked.request ≡ (get_or m.book.log i d).request

-- The reply to it: with the view as it is now, and with the outcome and total of the time when it was applied, on the totals that the entries before it
-- had left.
unfoldable pub reply_again : Setup → State → Entry → (i : ℕ) → Reply
reply_again u m d i =
    record {
      view = m.place.view;
      client = (get_or m.book.log i d).client;
      request = (get_or m.book.log i d).request;
      result = outcome (through (zeros u) (take i m.book.log)) (get_or m.book.log i d);
    }

-- It is sent, a Reply of 36 bytes, and nothing changes.
abbrev pub AnswersAgain : Setup → State → Type 0
AnswersAgain u m =
    (s : List ℕ) (d : Entry) (i room room_replies : ℕ) → AskedAgain u m s d i → 36 ≤ room_replies
    → answer u m (frame s room room_replies) ≡ done m [] (reply_again u m d i ∷ [])
