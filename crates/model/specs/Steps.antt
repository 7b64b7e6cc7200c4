-- The outside calls: creation, recovery, a frame, a tick (the Rust's `new`, `recover`, `on_message`, `on_idle`), with the refusals in document
-- 01's order: 1; 2 to 6 on the frame alone; the Rust's early returns and the later causes in the handlers; 9, 10. Assumes nothing.
use Rattle.std.specs.Prelude.{Option as RustOption, Some, None, Result, Ok, Err, ℕ, ◌+◌, Bool, true, false, not, List, [], ◌∷◌, ◌++◌, ltb, leb, length, drop}
use Rattle.std.proofs.Math.Option.{Option, none, some}
use Rattle.numbers.specs.Words.{when◌then◌else◌, ◌and◌}
use Rattle.entries.specs.Entries.{entries}
use Rattle.entries.specs.declared.Entry.{Entry}
use Rattle.config.specs.Setup.{setup_ok}
use Rattle.config.specs.declared.Setup.{Setup}
use Rattle.fees.specs.Takings.{most_takings}
use Rattle.clock.specs.Clock.{fresh_clock, tick_of}
use Rattle.clock.specs.declared.Ticked.{Ticked}
use Rattle.clock.specs.declared.Duty.TheVariants.{Lead, Follow, Change}
use Rattle.frames.specs.Messages.{carried_of, carried_bytes}
use Rattle.frames.specs.Refusals.{check_frame}
use Rattle.frames.specs.Looks.{looks_at}
use Rattle.frames.specs.declared.Status.{Status}
use Rattle.frames.specs.declared.Status.TheVariants.{Normal, Recovering}
use Rattle.frames.specs.declared.Progress.{Progress}
use Rattle.frames.specs.declared.Message.{Message}
use Rattle.frames.specs.declared.Message.TheVariants.{Request, Prepare, PrepareOk, Commit, GetState, NewState, StartViewChange, DoViewChange, StartView, Recovery, RecoveryResponse}
use Rattle.frames.specs.declared.Refusal.{Refusal}
use Rattle.writers.specs.Writers.{size_of}
use Rattle.state.specs.Statuses.{is_normal, is_transfer, is_changing}
use Rattle.model.specs.State.{Held, Reported, Response, State, Sent, Answer}
use Rattle.model.specs.State.Answer.{refused, done}
use Rattle.model.specs.State.{ignored, set_clock, op_of}
use Rattle.model.specs.Book.{empty_book}
use Rattle.model.specs.Sending.{is_primary, messages_out, replies_out, send_prepares, send_commit, send_get_state, send_start_view_change, send_recovery}
use Rattle.model.specs.Normal.{on_request, on_prepare, on_prepare_ok, on_commit, on_get_state, on_new_state}
use Rattle.model.specs.ViewChange.{no_reports, no_acks, start_view_change, send_do_view_change, on_start_view_change, on_do_view_change, on_start_view}
use Rattle.model.specs.Recovery.{no_responses, on_recovery, on_recovery_response}
use Rattle.frames.specs.declared.Refusal.TheVariants.{OutOfRange, LastView, NoRoomForMessages, NoRoomForReplies}

-- refusals 9 and 10: the messages, then the replies, don't fit their areas; the sums of all frames are compared
unfoldable pub fitted : (room room_replies : ℕ) → Answer → Answer
fitted a b (refused k) = refused k
fitted a b (done m out rs) =
    when ltb a (length (messages_out out)) then refused NoRoomForMessages else
    when ltb b (length (replies_out rs)) then refused NoRoomForReplies else
    done m out rs

-- the log that a frame carries: as many entries as its message says, of what follows its fields
unfoldable pub carried_log : Message → List ℕ → List Entry
carried_log x s = entries (size_of x).entries (carried_bytes x s)

-- what a RecoveryResponse carries, with its log
unfoldable pub held_in : RustOption Progress → List Entry → Option Held
held_in None log = none
held_in (Some p) log = some (record { commit = p.commit.0; log = log })

-- Refusal 1 on a state's numbers: commit ≤ op number ≤ L, of the replica's own log and of each stored one; takings of at most 4,096,000,000,000.
unfoldable pub held_ok : ℕ → Held → Bool
held_ok L h = leb h.commit (length h.log) and leb (length h.log) L

-- of each stored DoViewChange
unfoldable pub reported_ok : ℕ → List (Option Reported) → Bool
reported_ok L [] = true
reported_ok L (none ∷ xs) = reported_ok L xs
reported_ok L (some d ∷ xs) = held_ok L d.held and reported_ok L xs

-- of a stored state, where there is one
unfoldable pub held_ok_in : ℕ → Option Held → Bool
held_ok_in L none = true
held_ok_in L (some h) = held_ok L h

-- of each stored RecoveryResponse
unfoldable pub responses_ok : ℕ → List (Option Response) → Bool
responses_ok L [] = true
responses_ok L (none ∷ xs) = responses_ok L xs
responses_ok L (some d ∷ xs) = held_ok_in L d.held and responses_ok L xs

module _ (u : Setup) where
  -- refusal 1 is given exactly where this is false, or a lent buffer has another length (the model has no buffers)
  unfoldable pub numbers_ok : State → Bool
  numbers_ok m =
      setup_ok u and leb m.book.commit (op_of m) and leb (op_of m) u.room and leb m.book.takings most_takings
      and reported_ok u.room m.store.reports and responses_ok u.room m.store.responses

  -- on_message, its match
  unfoldable pub on_message : State → Message → List Entry → Answer
  on_message m (Request e) log = on_request u m e
  on_message m (Prepare v o c e) log = on_prepare u m v.0 o.0 c.0 e
  on_message m (PrepareOk v o r) log = on_prepare_ok u m v.0 o.0 r
  on_message m (Commit v c) log = on_commit u m v.0 c.0
  on_message m (GetState r v o) log = on_get_state u m r v.0 o.0
  on_message m (NewState v a z c) log = on_new_state u m v.0 a.0 z.0 c.0 log
  on_message m (StartViewChange v r) log = on_start_view_change u m v.0 r
  on_message m (DoViewChange v r l o c) log = on_do_view_change u m v.0 r (record { last_normal = l.0; held = record { commit = c.0; log = log } })
  on_message m (StartView v o c) log = on_start_view u m v.0 (record { commit = c.0; log = log })
  on_message m (Recovery r x v) log = on_recovery u m r x v.0
  on_message m (RecoveryResponse v x r t) log = on_recovery_response u m v.0 x r (held_in t log)

  -- a frame after refusals 2 to 6 on the frame alone: the table of what a status looks at, then the handler
  unfoldable pub on_checked : State → List ℕ → Result Message Refusal → Answer
  on_checked m s (Err k) = refused k
  on_checked m s (Ok x) =
      when not (looks_at m.place.status (carried_of x).kind) then ignored m else
      on_message m x (carried_log x s)

  -- on_idle, a Normal primary's: the heartbeat, then a Prepare for every op that is not committed
  unfoldable pub primary_tick : State → Answer
  primary_tick m =
      done
      (set_clock m (tick_of u.timeout Lead m.clock).clock)
      (send_commit u m ++ send_prepares u m (m.book.commit + 1) (drop m.book.commit m.book.log))
      []

  -- the wait is over, after the messages `out`: the next view, or refusal 8
  unfoldable pub next_view : State → List Sent → Answer
  next_view m out =
      when leb 4294967295 m.place.view then refused LastView else
      start_view_change u m (m.place.view + 1) out

  -- a Normal backup's, and StateTransfer's, which sends its GetState first; t is the clock's tick
  unfoldable pub follow_tick : State → Ticked → List Sent → Answer
  follow_tick m t out =
      when t.up then next_view (set_clock m t.clock) out else
      done (set_clock m t.clock) out []

  -- ViewChange's: a primary-to-be that sent its DoViewChange records its own again
  unfoldable pub change_tick : State → Ticked → Answer
  change_tick m t =
      when t.up then next_view (set_clock m t.clock) [] else
      when m.place.catching_up then done (set_clock m t.clock) (send_get_state u m m.book.commit) [] else
      when m.votes.sent then send_do_view_change u (set_clock m t.clock) (send_start_view_change u m.place.view) else
      done (set_clock m t.clock) (send_start_view_change u m.place.view) []

  -- on_idle. A Recovering tick leaves the clock alone.
  unfoldable pub on_idle : State → Answer
  on_idle m =
      when is_normal m.place.status and is_primary u m then primary_tick m else
      when is_normal m.place.status then follow_tick m (tick_of u.timeout Follow m.clock) [] else
      when is_transfer m.place.status then follow_tick m (tick_of u.timeout Follow m.clock) (send_get_state u m (op_of m)) else
      when is_changing m.place.status then change_tick m (tick_of u.timeout Change m.clock) else
      done m (send_recovery u m) []

  -- The outside calls, with the sizes of the two areas lent.
  unfoldable pub on_frame : State → List ℕ → (room room_replies : ℕ) → Answer
  on_frame m frame a b = when not (numbers_ok m) then refused OutOfRange else fitted a b (on_checked m frame (check_frame u frame))

  -- a tick
  unfoldable pub on_tick : State → (room room_replies : ℕ) → Answer
  on_tick m a b = when not (numbers_ok m) then refused OutOfRange else fitted a b (on_idle m)

  -- a new replica, in a view with a nonce
  unfoldable pub new_at : Status → (view nonce : ℕ) → State
  new_at status v x =
      record {
        place = record { status = status; view = v; last_normal = v; catching_up = false };
        book = empty_book u.members;
        votes = record { acks = no_acks u; starts = 0; sent = false };
        store = record { reports = no_reports u; responses = no_responses u; nonce = x };
        clock = fresh_clock;
      }

  -- new: refusal 1 on the setup. Nothing is sent.
  unfoldable pub create : Answer
  create = when setup_ok u then done (new_at Normal 0 0) [] [] else refused OutOfRange

  -- recover, with the size of the area for its Recovery messages: 1, then 9
  unfoldable pub recover : (view nonce room : ℕ) → Answer
  recover v x a = when setup_ok u then fitted a 0 (done (new_at Recovering v x) (send_recovery u (new_at Recovering v x)) []) else refused OutOfRange
