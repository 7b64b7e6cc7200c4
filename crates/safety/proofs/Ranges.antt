-- The numbers of every state that calls lead to stay in their ranges: each handler, any call, any calls. Assumes nothing.
use Rattle.std.specs.Prelude.{Option as RustOption, Some, None, Result, Ok, Err}
use Prim.Native.Nat.{ℕ, zero, suc, ◌+◌, ◌-◌, ◌≤◌, ◌<◌}
use native.Mathlib.Nat.{le_of_lt}
use native.Mathlib.Omega.{arith}
use mathlib.Core.Path.{◌≡◌, refl}
use mathlib.Core.Bool.{Bool, true, false}
use mathlib.Core.List.{List, [], ◌∷◌}
use mathlib.Core.Option.{Option, none, some}
use lib.ListN.{length, take, drop}
use borrow.Author.Tests.{ltb-true, ltb-false, leb-false}
use Rattle.numbers.specs.Words.{when◌then◌else◌, All}
use Rattle.numbers.specs.Numbers.{num, Bytes}
use Rattle.numbers.specs.Cells.{cells}
use Rattle.numbers.proofs.WordLaws.{split, or_left, and_left}
use Rattle.numbers.proofs.NumberLaws.{drop-bytes}
use Rattle.entries.specs.Entries.{entries, EntryFits}
use Rattle.entries.specs.declared.Entry.{Entry}
use Rattle.entries.proofs.SendableLaws.{num-fits, entry-fits}
use Rattle.config.specs.Setup.{setup_ok}
use Rattle.config.specs.declared.Setup.{Setup}
use Rattle.config.proofs.SetupLaws.{sized}
use Rattle.fees.specs.declared.Outcome.{Outcome}
use Rattle.clock.specs.declared.Ticked.{Ticked}
use Rattle.clock.specs.declared.Duty.TheVariants.{Lead, Follow, Change}
use Rattle.frames.specs.Messages.{message_of, carried_of}
use Rattle.frames.specs.Refusals.{check_frame}
use Rattle.frames.specs.declared.Progress.{Progress}
use Rattle.frames.specs.declared.Message.{Message}
use Rattle.frames.specs.declared.Message.TheVariants.{Request, Prepare, PrepareOk, Commit, GetState, NewState, StartViewChange, DoViewChange, StartView, Recovery, RecoveryResponse}
use Rattle.frames.specs.declared.Refusal.{Refusal}
use Rattle.frames.proofs.RefusalLaws.{Fit, passed}
use Rattle.model.specs.State.{Book, Held, Reported, Response, State, Sent, Reply, Answer}
use Rattle.model.specs.State.Answer.{refused, done}
use Rattle.model.specs.State.{after, ignored, set_book, set_store, set_votes, set_clock, set_acks, op_of}
use Rattle.model.specs.Book.{append_all, commit_up_to, install}
use Rattle.model.specs.Sending.{primary}
use Rattle.model.specs.Normal.{heard_from_primary, committed, resend, blanked, filled_gap, committed_then, on_request, accept_from_primary}
use Rattle.model.specs.Normal.{state_transfer, prepared, take_prepare, on_prepare, take_commit, on_commit, on_prepare_ok, on_get_state, fill_gap, caught_up, catch_up, on_new_state}
use Rattle.model.specs.ViewChange.{enter_normal, catch_up_with_view, started_with, start_view, start_chosen, record_do_view_change, send_do_view_change}
use Rattle.model.specs.ViewChange.{maybe_send_do_view_change, start_view_change, on_start_view_change, on_do_view_change, joined, on_start_view}
use Rattle.model.specs.Recovery.{latest_view, forgotten, on_recovery, recovered, recover_with, recover_from, recover_latest, on_recovery_response}
use Rattle.model.specs.Steps.{fitted, carried_log, held_in, numbers_ok, on_message, on_checked, primary_tick, next_view, follow_tick, change_tick, on_idle, on_frame, on_tick, new_at}
use Rattle.model.proofs.BookLaws.{commit_all-log}
use Rattle.safety.specs.Demand.{Call, answer, run, Created, At, Every, Safe}
use Rattle.safety.specs.Demand.Call.{frame, tick}
use Rattle.safety.specs.Ranges.{BytesOf, BytesIn, HeldFits, ReportedFits, ResponseFits, Ranges}
use Rattle.safety.proofs.Handlers.{every_get, chosen-has}
use Rattle.safety.proofs.Runs.{created, demand3}
use Rattle.safety.proofs.Changes.{all_append, all_take, all_drop, In, BookIn, ClockIn, ranges-of}
use Rattle.safety.proofs.Changes.{append-in, append_all-in, commit-in, install-in, no-acks, blanked-acks, acks-from, tick-in}
use Rattle.safety.proofs.Changes.{clock-in, book-in, status-in, acks-in, heard-in, committed-in, accepted-in, acked-in, sent-in, vote-in}
use Rattle.safety.proofs.Changes.{recorded-in, noted_in, forgotten-in, own-fits, entered-in, catching-in, changing-in, new_in}
use Rattle.frames.proofs.MessageLaws.{carried-in-bytes}
use Rattle.frames.specs.declared.Refusal.TheVariants.{OutOfRange, PastRoom, PastLog, NotRising, Uncommits, LastView, NoRoomForMessages, NoRoomForReplies}

-- what a call answers: in the ranges again, where the new state is safe, which demand 3 shows
data Fine (u : Setup) (m : State) : Answer → Type 0 where
  refusal : (k : Refusal) → Fine u m (refused k)
  moved : {m' : State} (out : List Sent) (rs : List Reply) → (Safe u m' → In u m → In u m') → Fine u m (done m' out rs)

module _ (u : Setup) (own : u.id < u.n) where
  cases : {m : State} (b : Bool) (x y : Answer) → (b ≡ true → Fine u m x) → (b ≡ false → Fine u m y) → Fine u m (when b then x else y)
  cases {m} = split (Fine u m)

  -- a change that needs no safety, and the same state
  went : {m m' : State} (out : List Sent) (rs : List Reply) → (In u m → In u m') → Fine u m (done m' out rs)
  went out rs f = moved out rs (λ _. f)

  same : {m : State} (out : List Sent) (rs : List Reply) → Fine u m (done m out rs)
  same out rs = went out rs (λ i. i)

  -- one change after another
  since : {a b : State} {x : Answer} → (In u a → In u b) → Fine u b x → Fine u a x
  since f (refusal k) = refusal k
  since f (moved out rs g) = moved out rs (λ s i. g s (f i))

  ignored-fine : {m : State} → Fine u m (ignored m)
  unfolding ignored
  ignored-fine = same [] []

  heard-fine : {m : State} → Fine u m (ignored (heard_from_primary m))
  heard-fine {m} = since (heard-in u m) ignored-fine

  -- Request
  resend-fine : (m : State) (e : Entry) (k : Option Outcome) → Fine u m (resend m e k)
  unfolding resend
  resend-fine m e none = ignored-fine
  resend-fine m e (some o) = same _ _

  request-fine : (m : State) (e : Entry) → EntryFits e → Fine u m (on_request u m e)
  unfolding on_request
  request-fine m e f =
      cases _ _ _ (λ _. ignored-fine) λ _.
      cases _ _ _ (λ _. ignored-fine) λ _.
      cases _ _ _ (λ _. resend-fine m e _) λ _.
      cases _ _ _ (λ _. refusal PastRoom) λ _.
      cases _ _ _ (λ _. refusal NotRising) λ _.
      went _ _ (accepted-in u m e own f)

  -- Prepare and Commit
  catching-fine : (m : State) (v : ℕ) → v < 4294967296 → m.place.view ≤ v → Fine u m (catch_up_with_view u m v)
  unfolding catch_up_with_view
  catching-fine m v fits up = cases _ _ _ (λ _. ignored-fine) (λ _. went _ _ (catching-in u m v fits up))

  from-primary : (m : State) (v : ℕ) (rest : Answer) → v < 4294967296 → Fine u m rest → Fine u m (accept_from_primary u m v rest)
  unfolding accept_from_primary heard_from_primary set_clock
  from-primary m v rest fits g =
      cases _ _ _ (λ _. ignored-fine) λ h.
      cases _ _ _ (λ _. catching-fine m v fits (ltb-false _ _ h)) λ _.
      cases _ _ _ (λ _. since (heard-in u m) (catching-fine _ v fits (ltb-false _ _ h))) λ _.
      cases _ _ _ (λ _. g) λ _.
      heard-fine

  transfer-fine : (m : State) → Fine u m (state_transfer u m)
  unfolding state_transfer
  transfer-fine m = went _ _ (status-in u m _)

  prepared-fine : (m : State) (c : ℕ) → Fine u m (prepared u m c)
  unfolding prepared
  prepared-fine m c = went _ _ (committed-in u m _)

  take-prepare : (m : State) (o c : ℕ) (e : Entry) → EntryFits e → Fine u m (take_prepare u m o c e)
  unfolding take_prepare heard_from_primary set_clock
  take-prepare m o c e f =
      cases _ _ _ (λ _. since (heard-in u m) (transfer-fine _)) λ _.
      cases _ _ _ (λ _. since (heard-in u m) (prepared-fine _ c)) λ _.
      cases _ _ _ (λ _. refusal PastRoom) λ _.
      cases _ _ _ (λ _. refusal NotRising) λ _.
      since (λ i. book-in u (heard_from_primary m) _ (append-in m.book e f) (heard-in u m i)) (prepared-fine _ c)

  prepare-fine : (m : State) (v o c : ℕ) (e : Entry) → v < 4294967296 → EntryFits e → Fine u m (on_prepare u m v o c e)
  unfolding on_prepare
  prepare-fine m v o c e fits f = from-primary m v _ fits (take-prepare m o c e f)

  take-commit : (m : State) (c : ℕ) → Fine u m (take_commit u m c)
  unfolding take_commit
  take-commit m c =
      cases _ _ _ (λ _. since (heard-in u m) (transfer-fine _)) λ _.
      went _ _ (λ i. committed-in u _ c (heard-in u m i))

  commit-fine : (m : State) (v c : ℕ) → v < 4294967296 → Fine u m (on_commit u m v c)
  unfolding on_commit
  commit-fine m v c fits = from-primary m v _ fits (take-commit m c)

  -- PrepareOk: the rows that go are of ops in the log, which has room
  blanked-in : (m : State) (o : ℕ) → o ≤ op_of m → Safe u (set_acks (committed m o) (blanked o m.votes.acks)) → In u m
      → In u (set_acks (committed m o) (blanked o m.votes.acks))
  unfolding set_acks set_votes committed set_book commit_up_to op_of
  blanked-in m o h s i =
      let room : length m.book.log ≤ u.room = rw commit_all-log at s.log-fits in
      acks-in u (committed m o) _ (blanked-acks u m.votes.acks o (omega arith)) (committed-in u m o i)

  prepare_ok-fine : (m : State) (v o r : ℕ) → r < u.n → Fine u m (on_prepare_ok u m v o r)
  unfolding on_prepare_ok ignored
  prepare_ok-fine m v o r h =
      cases _ _ _ (λ _. ignored-fine) λ _.
      cases _ _ _ (λ _. ignored-fine) λ _.
      cases _ _ _ (λ _. ignored-fine) λ _.
      cases _ _ _ (λ _. went _ _ (acked-in u m o r h)) λ _.
      cases _ _ _ (λ _. refusal PastLog) λ g.
      moved _ _ (blanked-in m o (ltb-false _ _ g))

  -- GetState and NewState
  get_state-fine : (m : State) (r v o : ℕ) → Fine u m (on_get_state u m r v o)
  unfolding on_get_state
  get_state-fine m r v o = cases _ _ _ (λ _. ignored-fine) (λ _. same _ _)

  filled_in : (m : State) (c : ℕ) (es : List Entry) → All EntryFits es → In u m → In u (filled_gap m c es)
  unfolding filled_gap heard_from_primary set_clock
  filled_in m c es f i =
      status-in u _ _
      (book-in u (heard_from_primary m) _ (λ b. commit-in (append_all m.book es) c (append_all-in m.book es f b)) (heard-in u m i))

  gap-fine : (m : State) (a z c : ℕ) (es : List Entry) → All EntryFits es → Fine u m (fill_gap u m a z c es)
  unfolding fill_gap
  gap-fine m a z c es f =
      cases _ _ _ (λ _. heard-fine) λ _.
      cases _ _ _ (λ _. refusal NotRising) λ _.
      went _ _ (filled_in m c _ (all_drop EntryFits (op_of m - a) es f))

  -- another log, and a commit
  installed-in : (m : State) (log : List Entry) (c : ℕ) → All EntryFits log → In u m → BookIn (commit_up_to (install m.book log) c)
  installed-in m log c f i = commit-in (install m.book log) c (install-in m.book log f i.book)

  caught-in : (m : State) (c : ℕ) (es : List Entry) → All EntryFits es → In u m → In u (caught_up u m c es)
  unfolding caught_up committed_then
  caught-in m c es f i =
      let kept : All EntryFits (take m.book.commit m.book.log) = all_take EntryFits m.book.commit m.book.log i.book.log in
      entered-in u m _ _ _ i.place.view
      (installed-in m _ c (all_append EntryFits (take m.book.commit m.book.log) es kept f) i)
      i.votes.acks i

  join-fine : (m : State) (a c : ℕ) (es : List Entry) → All EntryFits es → Fine u m (catch_up u m a c es)
  unfolding catch_up
  join-fine m a c es f =
      cases _ _ _ (λ _. heard-fine) λ _.
      cases _ _ _ (λ _. refusal NotRising) λ _.
      went _ _ (caught-in m c es f)

  new_state-fine : (m : State) (v a z c : ℕ) (es : List Entry) → All EntryFits es → Fine u m (on_new_state u m v a z c es)
  unfolding on_new_state
  new_state-fine m v a z c es f =
      cases _ _ _ (λ _. ignored-fine) λ _.
      cases _ _ _ (λ _. gap-fine m a z c es f) λ _.
      cases _ _ _ (λ _. join-fine m a c es f) λ _.
      heard-fine

  -- reports: DoViewChange, and our own
  started-in : (m : State) (b : Book) → (In u m → BookIn b) → Safe u (started_with u m b) → In u m → In u (started_with u m b)
  unfolding started_with enter_normal
  started-in m b f s i = entered-in u m _ b _ i.place.view (f i) (acks-from u _ _ own s.commit-le s.log-fits) i

  start_view-fine : (m : State) (log : List Entry) (c : ℕ) (out : List Sent) → (In u m → All EntryFits log) → Fine u m (start_view u m log c out)
  unfolding start_view
  start_view-fine m log c out f =
      cases _ _ _ (λ _. refusal Uncommits) λ _.
      cases _ _ _ (λ _. refusal Uncommits) λ _.
      moved _ _ (started-in m _ (λ i. installed-in m log c (f i) i))

  chosen-fine : (m : State) (o : Option Reported) (out : List Sent) → (In u m → At ReportedFits o) → Fine u m (start_chosen u m o out)
  unfolding start_chosen
  chosen-fine m none out f = same _ _
  chosen-fine m (some best) out f = start_view-fine m best.held.log _ out (λ i. (f i).entries_fit)

  record-fine : (m : State) (r : ℕ) (d : Reported) (out : List Sent) → (In u m → ReportedFits d) → Fine u m (record_do_view_change u m r d out)
  unfolding record_do_view_change
  record-fine m r d out f =
      cases _ _ _ (λ _. went _ _ (λ i. recorded-in u m r d (f i) i)) λ _.
      since (λ i. recorded-in u m r d (f i) i) (chosen-fine _ _ out (λ i. chosen-has ReportedFits _ i.store.reports))

  send-fine : (m : State) (out : List Sent) → Fine u m (send_do_view_change u m out)
  unfolding send_do_view_change
  send-fine m out = cases _ _ _ (λ _. record-fine m _ _ out (own-fits u m)) (λ _. same _ _)

  maybe-fine : (m : State) (out : List Sent) → Fine u m (maybe_send_do_view_change u m out)
  unfolding maybe_send_do_view_change
  maybe-fine m out = cases _ _ _ (λ _. since (sent-in u m) (send-fine _ out)) (λ _. same _ _)

  change-fine : (m : State) (v : ℕ) (out : List Sent) → v < 4294967296 → m.place.view ≤ v → Fine u m (start_view_change u m v out)
  unfolding start_view_change
  change-fine m v out fits up = went _ _ (changing-in u m v fits up)

  -- StartViewChange
  start_view_change-fine : (m : State) (v r : ℕ) → v < 4294967296 → r < u.n → Fine u m (on_start_view_change u m v r)
  unfolding on_start_view_change
  start_view_change-fine m v r fits h =
      cases _ _ _ (λ _. ignored-fine) λ up.
      cases _ _ _ (λ _. since (λ i. vote-in u _ r h (changing-in u m v fits (ltb-false _ _ up) i)) (maybe-fine _ _)) λ _.
      cases _ _ _ (λ _. since (vote-in u m r h) (maybe-fine _ _)) λ _.
      cases _ _ _ (λ _. same _ _) (λ _. ignored-fine)

  -- DoViewChange
  do_view_change-fine : (m : State) (v r : ℕ) (d : Reported) → v < 4294967296 → ReportedFits d → Fine u m (on_do_view_change u m v r d)
  unfolding on_do_view_change
  do_view_change-fine m v r d fits f =
      cases _ _ _ (λ _. ignored-fine) λ up.
      cases _ _ _ (λ _. since (changing-in u m v fits (ltb-false _ _ (or_left _ _ up))) (record-fine _ r d _ (λ _. f))) λ _.
      cases _ _ _ (λ _. same _ _) λ _.
      record-fine m r d _ (λ _. f)

  -- StartView
  joined_in : (m : State) (v : ℕ) (h : Held) → v < 4294967296 → HeldFits h → In u m → In u (joined u m v h)
  unfolding joined
  joined_in m v h fits f i = entered-in u m v _ _ fits (installed-in m h.log h.commit f i) (no-acks u) i

  on_start_view-fine : (m : State) (v : ℕ) (h : Held) → v < 4294967296 → HeldFits h → Fine u m (on_start_view u m v h)
  unfolding on_start_view
  on_start_view-fine m v h fits f =
      cases _ _ _ (λ _. ignored-fine) λ _.
      cases _ _ _ (λ _. ignored-fine) λ _.
      cases _ _ _ (λ _. refusal Uncommits) λ _.
      went _ _ (joined_in m v h fits f)

  -- Recovery and RecoveryResponse
  recovery-fine : (m : State) (r x v : ℕ) → v < 4294967296 → Fine u m (on_recovery u m r x v)
  unfolding on_recovery
  recovery-fine m r x v fits =
      cases _ _ _ (λ h. change-fine m v _ fits (le_of_lt (ltb-true _ _ h))) λ _.
      cases _ _ _ (λ _. ignored-fine) (λ _. same _ _)

  latest-fits : (xs : List (Option Response)) → Every ResponseFits xs → latest_view xs < 4294967296
  unfolding latest_view
  latest-fits [] f = omega arith
  latest-fits (none ∷ xs) f = latest-fits xs f.1
  latest-fits (some a ∷ xs) f = omega (arith, f.0.view-fits, latest-fits xs f.1)

  recovered-in : (m : State) (v : ℕ) (h : Held) → v < 4294967296 → HeldFits h → In u m → In u (recovered u m v h)
  unfolding recovered forgotten set_store
  recovered-in m v h fits f i =
      entered-in u (forgotten u m) v _ _ fits (installed-in m h.log h.commit f i) i.votes.acks (forgotten-in u m i)

  recover_with-fine : (m : State) (v w : ℕ) (h : Option Held) → (In u m → (v < 4294967296) × At HeldFits h) → Fine u m (recover_with u m v w h)
  unfolding recover_with
  recover_with-fine m v w none f = ignored-fine
  recover_with-fine m v w (some h) f =
      cases _ _ _ (λ _. ignored-fine) λ _.
      cases _ _ _ (λ _. refusal Uncommits) λ _.
      cases _ _ _ (λ _. refusal Uncommits) λ _.
      went _ _ (λ i. recovered-in m v h (f i).0 (f i).1 i)

  recover_from-fine : (m : State) (v : ℕ) (d : Option Response) → (In u m → (v < 4294967296) × At ResponseFits d) → Fine u m (recover_from u m v d)
  unfolding recover_from
  recover_from-fine m v none f = ignored-fine
  recover_from-fine m v (some d) f = recover_with-fine m v _ _ (λ i. ((f i).0, (f i).1.entries_fit))

  recover_latest-fine : (m : State) (v : ℕ) → (In u m → v < 4294967296) → Fine u m (recover_latest u m v)
  unfolding recover_latest
  recover_latest-fine m v fits =
      cases _ _ _ (λ _. ignored-fine) λ _.
      cases _ _ _ (λ _. ignored-fine) λ _.
      recover_from-fine m v _ (λ i. (fits i, every_get ResponseFits m.store.responses (primary u v) i.store.responses))

  response-fine : (m : State) (v x r : ℕ) (h : Option Held) → v < 4294967296 → At HeldFits h → Fine u m (on_recovery_response u m v x r h)
  unfolding on_recovery_response
  response-fine m v x r h fits f =
      cases _ _ _ (λ _. ignored-fine)
      (λ _. since (noted_in u m r _ (record { view-fits = fits; entries_fit = f }))
      (recover_latest-fine _ _ (λ i. latest-fits _ i.store.responses)))

  -- the tick
  next_view-fine : (m : State) (out : List Sent) → Fine u m (next_view u m out)
  unfolding next_view
  next_view-fine m out =
      cases _ _ _ (λ _. refusal LastView) λ h.
      change-fine m (m.place.view + 1) out (omega (arith, leb-false 4294967295 m.place.view h)) (omega arith)

  primary_tick-fine : (m : State) → Fine u m (primary_tick u m)
  unfolding primary_tick
  primary_tick-fine m = went _ _ (clock-in u m _ (tick-in u Lead m.clock))

  -- t being what the clock's tick gives
  module _ (m : State) (t : Ticked) (f : ClockIn u m.clock → ClockIn u t.clock) where
    follow_tick-fine : (out : List Sent) → Fine u m (follow_tick u m t out)
    unfolding follow_tick
    follow_tick-fine out =
        cases _ _ _ (λ _. since (clock-in u m _ f) (next_view-fine _ out)) λ _.
        went _ _ (clock-in u m _ f)

    change_tick-fine : Fine u m (change_tick u m t)
    unfolding change_tick
    change_tick-fine =
        cases _ _ _ (λ _. since (clock-in u m _ f) (next_view-fine _ _)) λ _.
        cases _ _ _ (λ _. went _ _ (clock-in u m _ f)) λ _.
        cases _ _ _ (λ _. since (clock-in u m _ f) (send-fine _ _)) λ _.
        went _ _ (clock-in u m _ f)

  idle-fine : (m : State) → Fine u m (on_idle u m)
  unfolding on_idle
  idle-fine m =
      cases _ _ _ (λ _. primary_tick-fine m) λ _.
      cases _ _ _ (λ _. follow_tick-fine m _ (tick-in u Follow m.clock) _) λ _.
      cases _ _ _ (λ _. follow_tick-fine m _ (tick-in u Follow m.clock) _) λ _.
      cases _ _ _ (λ _. change_tick-fine m _ (tick-in u Change m.clock)) λ _.
      same _ _

-- ---- what bytes say fits

pub entries_fit : (k : ℕ) (s : List ℕ) → Bytes s → All EntryFits (entries k s)
unfolding cells
entries_fit zero s b = tt
entries_fit (suc k) s b = (entry-fits s b, entries_fit k (drop 32 s) (drop-bytes 32 s b))

-- what a message's fields fit, as far as a state takes them in
abbrev Wire : Message → Type 0
Wire (Request e) = EntryFits e
Wire (Prepare v o c e) = (v.0 < 4294967296) × EntryFits e
Wire (PrepareOk v o r) = Unit
Wire (Commit v c) = v.0 < 4294967296
Wire (GetState r v o) = Unit
Wire (NewState v a z c) = Unit
Wire (StartViewChange v r) = v.0 < 4294967296
Wire (DoViewChange v r l o c) = (v.0 < 4294967296) × (l.0 < 4294967296)
Wire (StartView v o c) = v.0 < 4294967296
Wire (Recovery r x v) = v.0 < 4294967296
Wire (RecoveryResponse v x r t) = v.0 < 4294967296

wire : (k : ℕ) (s : List ℕ) → Bytes s → Wire (message_of k s)
unfolding message_of
wire k s b =
    split Wire _ _ _ (λ _. entry-fits (drop 7 s) (drop-bytes 7 s b)) λ _.
    split Wire _ _ _ (λ _. (num-fits 4 7 s b, entry-fits (drop 19 s) (drop-bytes 19 s b))) λ _.
    split Wire _ _ _ (λ _. tt) λ _.
    split Wire _ _ _ (λ _. num-fits 4 7 s b) λ _.
    split Wire _ _ _ (λ _. tt) λ _.
    split Wire _ _ _ (λ _. tt) λ _.
    split Wire _ _ _ (λ _. num-fits 4 7 s b) λ _.
    split Wire _ _ _ (λ _. (num-fits 4 7 s b, num-fits 4 12 s b)) λ _.
    split Wire _ _ _ (λ _. num-fits 4 7 s b) λ _.
    split Wire _ _ _ (λ _. num-fits 4 16 s b) (λ _. num-fits 4 7 s b)

held_fits : (t : RustOption Progress) (log : List Entry) → All EntryFits log → At HeldFits (held_in t log)
unfolding held_in
held_fits None log f = tt
held_fits (Some p) log f = f

-- ---- any call

module _ (u : Setup) (own : u.id < u.n) (m : State) where
  message-fine : (x : Message) (log : List Entry) → (carried_of x).sender < u.n → Wire x → All EntryFits log → Fine u m (on_message u m x log)
  unfolding on_message carried_of
  message-fine (Request e) log r w f = request-fine u own m e w
  message-fine (Prepare v o c e) log r w f = prepare-fine u own m v.0 o.0 c.0 e w.0 w.1
  message-fine (PrepareOk v o s) log r w f = prepare_ok-fine u own m v.0 o.0 s r
  message-fine (Commit v c) log r w f = commit-fine u own m v.0 c.0 w
  message-fine (GetState s v o) log r w f = get_state-fine u own m s v.0 o.0
  message-fine (NewState v a z c) log r w f = new_state-fine u own m v.0 a.0 z.0 c.0 log f
  message-fine (StartViewChange v s) log r w f = start_view_change-fine u own m v.0 s w r
  message-fine (DoViewChange v s l o c) log r w f = do_view_change-fine u own m v.0 s _ w.0 (record { last-normal = w.1; entries_fit = f })
  message-fine (StartView v o c) log r w f = on_start_view-fine u own m v.0 _ w f
  message-fine (Recovery s x v) log r w f = recovery-fine u own m s x v.0 w
  message-fine (RecoveryResponse v x s t) log r w f = response-fine u own m v.0 x s (held_in t log) w (held_fits t log f)

  checked-fine : (s : List ℕ) → Bytes s → (x : Result Message Refusal) → check_frame u s ≡ x → Fine u m (on_checked u m s x)
  unfolding on_checked carried_log
  checked-fine s b (Err k) e = refusal k
  checked-fine s b (Ok x) e =
      let f : Fit u s x = passed u s x e in
      cases u own _ _ _ (λ _. ignored-fine u own)
      (λ _. message-fine x _ f.sender (rw f.said.message (wire (num 1 5 s) s b)) (entries_fit _ _ (carried-in-bytes x s b)))

  -- refusals 9 and 10
  fitted-fine : (a b : ℕ) (x : Answer) → Fine u m x → Fine u m (fitted a b x)
  unfolding fitted
  fitted-fine a b (refused k) g = g
  fitted-fine a b (done m' out rs) g = cases u own _ _ _ (λ _. refusal NoRoomForMessages) λ _. cases u own _ _ _ (λ _. refusal NoRoomForReplies) (λ _. g)

  call-fine : (c : Call) → BytesOf c → Fine u m (answer u m c)
  unfolding answer on_frame on_tick
  call-fine (frame s a b) f = cases u own _ _ _ (λ _. refusal OutOfRange) (λ _. fitted-fine a b _ (checked-fine s f (check_frame u s) refl))
  call-fine (tick a b) f = cases u own _ _ _ (λ _. refusal OutOfRange) (λ _. fitted-fine a b _ (idle-fine u own m))

after-in : {u : Setup} {m : State} {x : Answer} → Fine u m x → Safe u (after m x) → In u m → In u (after m x)
unfolding after
after-in (refusal k) s i = i
after-in (moved out rs f) s i = f s i

-- ---- any calls

run_in : (u : Setup) (m : State) → u.id < u.n → ((cs : List Call) → Safe u (run u m cs)) → In u m → (cs : List Call) → BytesIn cs
    → In u (run u m cs)
unfolding run
run_in u m own safe i [] b = i
run_in u m own safe i (c ∷ cs) b =
    run_in u (after m (answer u m c)) own (λ ds. safe (c ∷ ds)) (after-in (call-fine u own m c b.0) (safe (c ∷ [])) i) cs b.1

-- After a creation that was not refused, of a view and a nonce that fit, and any calls whose frames are bytes, the numbers of the state are
-- in their ranges.
pub ranges : (u : Setup) (m : State) → Created u m → m.place.view < 4294967296 → m.store.nonce < 18446744073709551616
    → (cs : List Call) → BytesIn cs → Ranges u (run u m cs)
unfolding new_at numbers_ok run
ranges u m from view nonce cs bytes =
    let safe : (ds : List Call) → Safe u (run u m ds) = λ ds. (demand3 u m from ds []).safe in
    let sizes : setup_ok u ≡ true = and_left _ _ (safe []).never-1 in
    let P : State → Type 0 = λ n. n.place.view < 4294967296 → n.store.nonce < 18446744073709551616 → In u n in
    let first : In u m = created u P (λ _. new_in u) m from view nonce in
    ranges-of u _ (run_in u m (sized u sizes).own safe first cs bytes)
