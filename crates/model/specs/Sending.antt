-- Who gets what: each message as it is sent, and the bytes of all that a call sends (the Rust's `send`, `send_to_primary`, `send_to_others`).
-- Assumes nothing.
use Rattle.std.specs.Prelude.{Some, None, ℕ, zero, suc, ◌+◌, Bool, List, [], ◌∷◌, ◌++◌, eqb, drop}
use Rattle.numbers.specs.Words.{when◌then◌else◌}
use Rattle.numbers.specs.Cells.{packed}
use Rattle.entries.specs.Entries.{encode_entry}
use Rattle.entries.specs.declared.Entry.{Entry}
use Rattle.config.specs.Setup.{primary_of}
use Rattle.config.specs.declared.Setup.{Setup}
use Rattle.frames.specs.declared.Message.{Message}
use Rattle.frames.specs.declared.Message.TheVariants.{Prepare, PrepareOk, Commit, GetState, NewState, StartViewChange, DoViewChange, StartView, Recovery, RecoveryResponse}
use Rattle.writers.specs.Writers.{encode, reply}
use Rattle.model.specs.State.{view_of, op_number, State, Sent, Reply, op_of}
use Rattle.frames.specs.Messages.{progress}

-- the bytes of a message with its log
unfoldable pub sent_bytes : Sent → List ℕ
sent_bytes x = encode x.to x.message (packed encode_entry x.log)

-- the bytes of a reply: kind 12
unfoldable pub reply_bytes : Reply → List ℕ
reply_bytes p = reply (view_of p.view) p.client p.request p.result.code p.result.total

-- all messages of a call, each straight after the one before it (document 01, "Frames")
unfoldable pub messages_out : List Sent → List ℕ
messages_out xs = packed sent_bytes xs

-- all replies of a call, likewise
unfoldable pub replies_out : List Reply → List ℕ
replies_out ps = packed reply_bytes ps

-- send
unfoldable pub send : ℕ → Message → List Entry → List Sent
send r x log = record { to = r; message = x; log = log } ∷ []

-- the NewState of on_get_state: our log from op o on
unfoldable pub send_new_state : State → (to op : ℕ) → List Sent
send_new_state m r o =
    send r
    (NewState (view_of m.place.view) (op_number o) (op_number (op_of m)) (op_number m.book.commit))
    (drop o m.book.log)

-- the StartView of our view, with our log beside it
unfoldable pub start_view_of : State → Message
start_view_of m = StartView (view_of m.place.view) (op_number (op_of m)) (op_number m.book.commit)

-- send_start_view, to one replica
unfoldable pub send_start_view : State → ℕ → List Sent
send_start_view m r = send r (start_view_of m) m.book.log

module _ (u : Setup) where
  -- primary_id: view mod n
  unfoldable pub primary : ℕ → ℕ
  primary v = primary_of u.n (view_of v)

  -- is_primary
  unfoldable pub is_primary : State → Bool
  is_primary m = eqb u.id (primary m.place.view)

  -- send_to_others: to each replica below k but ourselves, in rising order of id
  unfoldable pub to_others_below : ℕ → Message → List Entry → List Sent
  to_others_below zero x log = []
  to_others_below (suc k) x log = to_others_below k x log ++ (when eqb k u.id then [] else send k x log)

  -- send_to_others
  unfoldable pub to_others : Message → List Entry → List Sent
  to_others x log = to_others_below u.n x log

  -- send_to_primary
  unfoldable pub to_primary : State → Message → List Entry → List Sent
  to_primary m x log = send (primary m.place.view) x log

  -- the Prepare of op o, in on_request and on_idle
  unfoldable pub send_prepare : State → ℕ → Entry → List Sent
  send_prepare m o e = to_others (Prepare (view_of m.place.view) (op_number o) (op_number m.book.commit) e) []

  -- the Prepares of entries from op o on: on_idle's loop
  unfoldable pub send_prepares : State → ℕ → List Entry → List Sent
  send_prepares m o [] = []
  send_prepares m o (e ∷ es) = send_prepare m o e ++ send_prepares m (o + 1) es

  -- send_prepare_ok, with our own op number
  unfoldable pub send_prepare_ok : State → List Sent
  send_prepare_ok m = to_primary m (PrepareOk (view_of m.place.view) (op_number (op_of m)) u.id) []

  -- the heartbeat of on_idle
  unfoldable pub send_commit : State → List Sent
  send_commit m = to_others (Commit (view_of m.place.view) (op_number m.book.commit)) []

  -- send_get_state
  unfoldable pub send_get_state : State → ℕ → List Sent
  send_get_state m o = to_primary m (GetState u.id (view_of m.place.view) (op_number o)) []

  -- the StartViewChange of start_view_change and on_idle
  unfoldable pub send_start_view_change : ℕ → List Sent
  send_start_view_change v = to_others (StartViewChange (view_of v) u.id) []

  -- the DoViewChange of send_do_view_change, where another replica is the primary
  unfoldable pub do_view_change_to_primary : State → List Sent
  do_view_change_to_primary m =
      to_primary m
      (DoViewChange (view_of m.place.view) u.id (view_of m.place.last_normal) (op_number (op_of m)) (op_number m.book.commit))
      m.book.log

  -- our StartView to all others, at the end of record_do_view_change
  unfoldable pub start_view_to_others : State → List Sent
  start_view_to_others m = to_others (start_view_of m) m.book.log

  -- the RecoveryResponse of on_recovery: with state from the primary only
  unfoldable pub send_recovery_response : State → (to nonce : ℕ) → List Sent
  send_recovery_response m r x =
      when is_primary m
      then
      send r
      (RecoveryResponse (view_of m.place.view) x u.id (Some (progress (op_number (op_of m)) (op_number m.book.commit))))
      m.book.log
      else send r (RecoveryResponse (view_of m.place.view) x u.id None) []

  -- send_recovery
  unfoldable pub send_recovery : State → List Sent
  send_recovery m = to_others (Recovery u.id m.store.nonce (view_of m.place.view)) []
