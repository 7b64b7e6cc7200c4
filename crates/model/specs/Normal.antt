-- Normal operation and state transfer. Each function is named after the Rust's; the later refusals 4, 5 and 6 stand after the Rust's own early
-- returns. Assumes nothing.
use Rattle.std.specs.Prelude.{ℕ, ◌+◌, ◌-◌, min, not, List, [], ◌∷◌, ◌++◌, ltb, leb, eqb, take, drop, get_or, set, replicate}
use Rattle.std.proofs.Math.Option.{Option, none, some}
use Rattle.numbers.specs.Words.{when◌then◌else◌, ◌and◌, ◌or◌}
use Rattle.entries.specs.Rising.{rising}
use Rattle.entries.specs.declared.Entry.{Entry}
use Rattle.config.specs.Replicas.{bit, with_member, count_below, quorum_of}
use Rattle.config.specs.declared.Setup.{Setup}
use Rattle.fees.specs.declared.Outcome.{Outcome}
use Rattle.clock.specs.Clock.{heard_of}
use Rattle.frames.specs.declared.Status.TheVariants.{Normal, StateTransfer}
use Rattle.state.specs.Statuses.{is_normal, is_transfer, is_changing}
use Rattle.model.specs.State.{State, Answer}
use Rattle.model.specs.State.Answer.{refused, done}
use Rattle.model.specs.State.{ignored, set_book, set_clock, set_status, set_acks, op_of}
use Rattle.model.specs.Book.{find, append, append_all, commit_up_to, commit_replies, install}
use Rattle.model.specs.Sending.{is_primary, send_prepare, send_prepare_ok, send_get_state, send_new_state}
use Rattle.model.specs.ViewChange.{own_vote, enter_normal, catch_up_with_view}
use Rattle.frames.specs.declared.Refusal.TheVariants.{PastRoom, PastLog, NotRising}

-- heard_from_primary
unfoldable pub heard_from_primary : State → State
heard_from_primary m = set_clock m (heard_of m.clock).clock

-- commit_up_to
unfoldable pub committed : State → ℕ → State
committed m k = set_book m (commit_up_to m.book k)

-- Request of the client's latest number: the reply again, with the current view, if there is one
unfoldable pub resend : State → Entry → Option Outcome → Answer
resend m e none = ignored m
resend m e (some o) = done m [] (record { view = m.place.view; client = e.client; request = e.request; result = o } ∷ [])

-- acks.get: the acks of op o, 0 where there is no row
unfoldable pub ack_row : State → ℕ → ℕ
ack_row m o = get_or m.votes.acks (o - 1) 0

-- acks.get_mut(op).insert: the acks of op o with r among them
unfoldable pub acked : State → ℕ → ℕ → State
acked m o r = set_acks m (set m.votes.acks (o - 1) (with_member (ack_row m o) r))

-- acks.retain: the rows of ops 1 to o go, later ones stay
unfoldable pub blanked : ℕ → List ℕ → List ℕ
blanked o acks = replicate o 0 ++ drop o acks

-- on_new_state in StateTransfer: the excess is appended; acks stay (document 01)
unfoldable pub filled_gap : State → ℕ → List Entry → State
filled_gap m c es = set_status (set_book (heard_from_primary m) (commit_up_to (append_all m.book es) c)) Normal

-- our committed entries, then those given
unfoldable pub committed_then : State → List Entry → List Entry
committed_then m es = take m.book.commit m.book.log ++ es

module _ (u : Setup) where
  -- on_request, its last part: the entry is appended, and acknowledged by ourselves
  unfoldable pub accepted : State → Entry → State
  accepted m e = set_acks (set_book m (append m.book e)) (set m.votes.acks (op_of m) (own_vote u))

  -- on_request: an older number is dropped, the latest one answered again, a new one appended. 4: the log has L entries; 6: it would not rise.
  unfoldable pub on_request : State → Entry → Answer
  on_request m e =
      when not (is_primary u m and is_normal m.place.status) then ignored m else
      when (find m.book.table e.client).there and ltb e.request (find m.book.table e.client).request then ignored m else
      when (find m.book.table e.client).there and eqb e.request (find m.book.table e.client).request
      then resend m e (find m.book.table e.client).kept else
      when leb u.room (op_of m) then refused PastRoom else
      when not (rising (m.book.log ++ (e ∷ []))) then refused NotRising else
      done (accepted m e) (send_prepare u m (op_of m + 1) e) []

  -- accept_from_primary: `rest` is done only by a backup in Normal, in the message's view
  unfoldable pub accept_from_primary : State → ℕ → Answer → Answer
  accept_from_primary m v rest =
      when ltb v m.place.view then ignored m else
      when ltb m.place.view v then catch_up_with_view u m v else
      when is_changing m.place.status then catch_up_with_view u (heard_from_primary m) v else
      when is_normal m.place.status and not (is_primary u m) then rest else
      ignored (heard_from_primary m)

  -- state_transfer: within a view only the primary is asked; the paper asks any replica
  unfoldable pub state_transfer : State → Answer
  state_transfer m = done (set_status m StateTransfer) (send_get_state u m (op_of m)) []

  -- on_prepare, its last part: commit to the smaller of c and our op number, and acknowledge our op number
  unfoldable pub prepared : State → ℕ → Answer
  prepared m c = done (committed m (min c (op_of m))) (send_prepare_ok u (committed m (min c (op_of m)))) []

  -- the next op is appended; an earlier one is a re-sent Prepare, not compared with our entry
  unfoldable pub take_prepare : State → (op commit : ℕ) → Entry → Answer
  take_prepare m o c e =
      when ltb (op_of m + 1) o then state_transfer (heard_from_primary m) else
      when not (eqb o (op_of m + 1)) then prepared (heard_from_primary m) c else
      when leb u.room (op_of m) then refused PastRoom else
      when not (rising (m.book.log ++ (e ∷ []))) then refused NotRising else
      prepared (set_book (heard_from_primary m) (append m.book e)) c

  -- on_prepare
  unfoldable pub on_prepare : State → (view op commit : ℕ) → Entry → Answer
  on_prepare m v o c e = accept_from_primary m v (take_prepare m o c e)

  -- on_commit, its last part
  unfoldable pub take_commit : State → ℕ → Answer
  take_commit m c =
      when ltb (op_of m) c then state_transfer (heard_from_primary m) else
      done (committed (heard_from_primary m) c) [] []

  -- on_commit: c is bounded by nothing
  unfoldable pub on_commit : State → (view commit : ℕ) → Answer
  on_commit m v c = accept_from_primary m v (take_commit m c)

  -- on_prepare_ok: an ack fires only when the count reaches the quorum exactly. Refusal 5 where the Rust panics: acks aren't cleared when a
  -- NewState is installed, so that a row may stand above the log.
  unfoldable pub on_prepare_ok : State → (view op sender : ℕ) → Answer
  on_prepare_ok m v o r =
      when not (eqb v m.place.view and is_primary u m and is_normal m.place.status) then ignored m else
      when leb o m.book.commit then ignored m else
      when eqb (ack_row m o) 0 or eqb (bit (ack_row m o) r) 1 then ignored m else
      when not (eqb (count_below u.n (with_member (ack_row m o) r)) (quorum_of u.n)) then ignored (acked m o r) else
      when ltb (op_of m) o then refused PastLog else
      done (set_acks (committed m o) (blanked o m.votes.acks)) [] (commit_replies v m.book o)

  -- on_get_state
  unfoldable pub on_get_state : State → (sender view op : ℕ) → Answer
  on_get_state m r v o =
      when not (is_normal m.place.status and eqb v m.place.view and leb o (op_of m)) then ignored m else
      done m (send_new_state m r o) []

  -- on_new_state in StateTransfer: it must start at or before our log's end and end beyond it
  unfoldable pub fill_gap : State → (start end commit : ℕ) → List Entry → Answer
  fill_gap m a z c es =
      when ltb (op_of m) a or leb z (op_of m) then ignored (heard_from_primary m) else
      when not (rising (m.book.log ++ drop (op_of m - a) es)) then refused NotRising else
      done (filled_gap m c (drop (op_of m - a) es)) (send_prepare_ok u (filled_gap m c (drop (op_of m - a) es))) []

  -- on_new_state, catching up, what it changes: what we had beyond our commit number is replaced. Acks stay (document 01).
  unfoldable pub caught_up : State → ℕ → List Entry → State
  caught_up m c es = enter_normal u m m.place.view (commit_up_to (install m.book (committed_then m es)) c) m.votes.acks

  -- on_new_state, catching up: it must start exactly at our commit number. 6: the log would not rise.
  unfoldable pub catch_up : State → (start commit : ℕ) → List Entry → Answer
  catch_up m a c es =
      when not (eqb a m.book.commit) then ignored (heard_from_primary m) else
      when not (rising (committed_then m es)) then refused NotRising else
      done (caught_up m c es) (send_prepare_ok u (caught_up m c es)) []

  -- on_new_state: one of our view counts as heard, in Normal too
  unfoldable pub on_new_state : State → (view start end commit : ℕ) → List Entry → Answer
  on_new_state m v a z c es =
      when not (eqb v m.place.view) then ignored m else
      when is_transfer m.place.status then fill_gap m a z c es else
      when is_changing m.place.status and m.place.catching_up then catch_up m a c es else
      ignored (heard_from_primary m)
