-- View change: how a replica leaves a view, votes for the next one, starts it or joins it. Each function is named after the Rust's.
-- Assumes nothing.
use Rattle.std.specs.Prelude.{ℕ, suc, ◌-◌, ◌/◌, max, Bool, true, false, not, List, [], ◌∷◌, ◌++◌, ltb, leb, eqb, length, set, replicate}
use Rattle.std.proofs.Math.Option.{Option, none, some}
use Rattle.numbers.specs.Words.{when◌then◌else◌, ◌and◌, ◌or◌}
use Rattle.entries.specs.declared.Entry.{Entry}
use Rattle.config.specs.Replicas.{with_member, with_another, count_below, quorum_of}
use Rattle.config.specs.declared.Setup.{Setup}
use Rattle.clock.specs.Clock.{reset_of, start_of, restart_of}
use Rattle.frames.specs.declared.Status.TheVariants.{Normal, ViewChange}
use Rattle.state.specs.Statuses.{is_normal, is_changing}
use Rattle.model.specs.State.{Book, Votes, Held, Reported, Store, State, Sent, Answer}
use Rattle.model.specs.State.Answer.{refused, done}
use Rattle.model.specs.State.{ignored, set_votes, set_store}
use Rattle.model.specs.Book.{commit_up_to, commit_replies, install, agree}
use Rattle.model.specs.Sending.{primary, is_primary, send_prepare_ok, send_get_state, send_start_view_change, do_view_change_to_primary, send_start_view, start_view_to_others}
use Rattle.frames.specs.declared.Refusal.TheVariants.{Uncommits}

-- how many places are filled: the `len` of a map over replicas
unfoldable pub filled {ℓ} : {A : Type ℓ} → List (Option A) → ℕ
filled [] = 0
filled (none ∷ xs) = filled xs
filled (some x ∷ xs) = suc (filled xs)

-- The Rust's `max_by_key`: the report with the greatest (last normal view, length), on a tie the highest replica id (document 01).
-- a stands before b, that is, at a lower id.
unfoldable pub better : Reported → Option Reported → Reported
better a none = a
better a (some b) =
    when ltb b.last_normal a.last_normal then a else
    when eqb b.last_normal a.last_normal and ltb (length b.held.log) (length a.held.log) then a else
    b

-- the best report of all; none where there is none
unfoldable pub chosen : List (Option Reported) → Option Reported
chosen [] = none
chosen (none ∷ xs) = chosen xs
chosen (some a ∷ xs) = some (better a (chosen xs))

-- the commit number of the new view is the greatest among all, not the chosen one's (document 01)
unfoldable pub greatest_commit : List (Option Reported) → ℕ
greatest_commit [] = 0
greatest_commit (none ∷ xs) = greatest_commit xs
greatest_commit (some a ∷ xs) = max a.held.commit (greatest_commit xs)

-- our log and commit number
unfoldable pub held_by : State → Held
held_by m = record { commit = m.book.commit; log = m.book.log }

-- what we report in our DoViewChange
unfoldable pub our_report : State → Reported
our_report m = record { last_normal = m.place.last_normal; held = held_by m }

-- clear_view_change_state, its votes
unfoldable pub cleared_votes : State → Votes
cleared_votes m = record { acks = m.votes.acks; starts = 0; sent = false }

-- do_view_change_sent
unfoldable pub mark_sent : State → State
mark_sent m = set_votes m (record { acks = m.votes.acks; starts = m.votes.starts; sent = true })

-- do_view_change_from.insert
unfoldable pub report_noted : State → ℕ → Reported → State
report_noted m r d =
    set_store m
    (record { reports = set m.store.reports r (some d); responses = m.store.responses; nonce = m.store.nonce })

module _ (u : Setup) where
  -- no report, of n replicas
  unfoldable pub no_reports : List (Option Reported)
  no_reports = replicate u.n none

  -- acks.clear: no row, of L
  unfoldable pub no_acks : List ℕ
  no_acks = replicate u.room 0

  -- the set of ourselves alone
  unfoldable pub own_vote : ℕ
  own_vote = with_member 0 u.id

  -- start_view_change_from.insert, but for our own id, which never joins the set: as in the paper, and unlike the Rust
  unfoldable pub voted_for : State → ℕ → State
  voted_for m r =
      set_votes m (record { acks = m.votes.acks; starts = with_another m.votes.starts u.id r; sent = m.votes.sent })

  -- clear_view_change_state, its reports
  unfoldable pub cleared_store : State → Store
  cleared_store m = record { reports = no_reports; responses = m.store.responses; nonce = m.store.nonce }

  -- enter_normal, in view v, with book b and acks a
  unfoldable pub enter_normal : State → ℕ → Book → List ℕ → State
  enter_normal m v b a =
      record {
        place = record { status = Normal; view = v; last_normal = v; catching_up = false };
        book = b;
        votes = record { acks = a; starts = 0; sent = false };
        store = cleared_store m;
        clock = (reset_of m.clock).clock;
      }

  -- catch_up_with_view, what it changes. The paper asks any other replica for state, the Rust the new view's primary.
  unfoldable pub catching_up_with : State → ℕ → State
  catching_up_with m v =
      record {
        place = record { status = ViewChange; view = v; last_normal = m.place.last_normal; catching_up = true };
        book = m.book;
        votes = cleared_votes m;
        store = cleared_store m;
        clock = (restart_of m.clock).clock;
      }

  -- catch_up_with_view: nothing where we are catching up with that view already
  unfoldable pub catch_up_with_view : State → ℕ → Answer
  catch_up_with_view m v =
      when eqb m.place.view v and m.place.catching_up then ignored m else
      done (catching_up_with m v) (send_get_state u (catching_up_with m v) m.book.commit) []

  -- acks of a new view: our own for each op after c and up to k, none for the others
  unfoldable pub acks_from : ℕ → ℕ → List ℕ
  acks_from c k = replicate c 0 ++ replicate (k - c) own_vote ++ replicate (u.room - k) 0

  -- record_do_view_change, its last part: the view starts with book b
  unfoldable pub started_with : State → Book → State
  started_with m b = enter_normal m m.place.view b (acks_from b.commit (length b.log))

  -- The view starts with log and commit number, after the messages `out`, unless refusal 7: the install would shorten or alter committed
  -- entries, or the greatest c passes the chosen log. Replies go out for all that is committed here.
  unfoldable pub start_view : State → List Entry → ℕ → List Sent → Answer
  start_view m log c out =
      when not (agree m.book.commit log m.book.log) then refused Uncommits else
      when ltb (length log) c then refused Uncommits else
      done
      (started_with m (commit_up_to (install m.book log) c))
      (out ++ start_view_to_others u (started_with m (commit_up_to (install m.book log) c)))
      (commit_replies m.place.view (install m.book log) c)

  -- with the chosen report; a quorum has one
  unfoldable pub start_chosen : State → Option Reported → List Sent → Answer
  start_chosen m none out = done m out []
  start_chosen m (some best) out = start_view m best.held.log (greatest_commit m.store.reports) out

  -- record_do_view_change, after the messages `out`: with a quorum of reports the view starts. The paper wants the new primary's own among
  -- them, the Rust doesn't.
  unfoldable pub record_do_view_change : State → ℕ → Reported → List Sent → Answer
  record_do_view_change m r d out =
      when ltb (filled (report_noted m r d).store.reports) (quorum_of u.n) then done (report_noted m r d) out [] else
      start_chosen (report_noted m r d) (chosen (report_noted m r d).store.reports) out

  -- send_do_view_change, after the messages `out`: to the primary, or report_noted if that is us
  unfoldable pub send_do_view_change : State → List Sent → Answer
  send_do_view_change m out =
      when is_primary u m then record_do_view_change m u.id (our_report m) out else
      done m (out ++ do_view_change_to_primary u m) []

  -- maybe_send_do_view_change, its test: once, as soon as the set has n/2 distinct ids
  unfoldable pub enough : State → Bool
  enough m =
      is_changing m.place.status and not m.place.catching_up and not m.votes.sent
      and leb (u.n / 2) (count_below u.n m.votes.starts)

  -- maybe_send_do_view_change, after the messages `out`
  unfoldable pub maybe_send_do_view_change : State → List Sent → Answer
  maybe_send_do_view_change m out = when enough m then send_do_view_change (mark_sent m) out else done m out []

  -- start_view_change, what it changes: attempts rise only from ViewChange. No vote is held then and n/2 is at least 1, so its last line,
  -- maybe_send_do_view_change, does nothing.
  unfoldable pub changing_to : State → ℕ → State
  changing_to m v =
      record {
        place = record { status = ViewChange; view = v; last_normal = m.place.last_normal; catching_up = false };
        book = m.book;
        votes = cleared_votes m;
        store = cleared_store m;
        clock = (start_of (is_changing m.place.status) m.clock).clock;
      }

  -- start_view_change, after the messages `out`
  unfoldable pub start_view_change : State → ℕ → List Sent → Answer
  start_view_change m v out = done (changing_to m v) (out ++ send_start_view_change u v) []

  -- on_start_view_change. The paper has no answer to one who missed StartView.
  unfoldable pub on_start_view_change : State → (view sender : ℕ) → Answer
  on_start_view_change m v r =
      when ltb v m.place.view then ignored m else
      when ltb m.place.view v then maybe_send_do_view_change (voted_for (changing_to m v) r) (send_start_view_change u v) else
      when is_changing m.place.status then maybe_send_do_view_change (voted_for m r) [] else
      when is_normal m.place.status and is_primary u m then done m (send_start_view m r) [] else
      ignored m

  -- on_do_view_change. One of a later view is dropped unless we lead that view.
  unfoldable pub on_do_view_change : State → (view sender : ℕ) → Reported → Answer
  on_do_view_change m v r d =
      when ltb v m.place.view or not (eqb (primary u v) u.id) then ignored m else
      when ltb m.place.view v then record_do_view_change (changing_to m v) r d (send_start_view_change u v) else
      when is_normal m.place.status then done m (send_start_view m r) [] else
      record_do_view_change m r d []

  -- on_start_view, what it changes: install, commit, acks cleared. PrepareOk then goes out always (the paper: only for uncommitted entries).
  unfoldable pub joined : State → ℕ → Held → State
  joined m v h = enter_normal m v (commit_up_to (install m.book h.log) h.commit) no_acks

  -- on_start_view: one of our own view is new only while we are changing to it. 7: committed entries would be shortened or altered.
  unfoldable pub on_start_view : State → (view : ℕ) → Held → Answer
  on_start_view m v h =
      when ltb v m.place.view then ignored m else
      when eqb v m.place.view and not (is_changing m.place.status) then ignored m else
      when not (agree m.book.commit h.log m.book.log) then refused Uncommits else
      done (joined m v h) (send_prepare_ok u (joined m v h)) []
