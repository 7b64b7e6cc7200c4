-- What it takes to send a DoViewChange: each handler leaves votes of others who asked, and backs each DoViewChange by n/2 of them.
--     vote-stays                 the own id never joins the set; another one that asked may
--     start_view_change-fair ..    one lemma for each handler
--     frame-fair, tick-fair      any frame and any tick
--     no-votes, new-voted        where nobody asked yet; a replica just created
--     after-voted                the votes that a call leaves
-- Assumes nothing.
use Rattle.std.specs.Prelude.{Result, Ok, Err}
use Prim.Native.Nat.{ℕ, zero, suc, ◌+◌, ◌/◌, ◌%◌, ◌^◌, ◌≤◌, ◌<◌}
use native.Mathlib.Nat.{zero-div}
use native.Mathlib.Omega.{arith}
use mathlib.Core.Path.{◌≡◌, refl, sym, ap, ◌∙◌, subst}
use mathlib.Core.Logic.{◌⊎◌, inl, inr}
use mathlib.Core.Bool.{Bool, true, false, false≢true}
use mathlib.Core.List.{List, [], ◌∷◌, ◌++◌}
use mathlib.Core.Option.{Option, none, some}
use lib.Dec.{ltb}
use lib.ListN.{drop}
use borrow.Author.Tests.{ltb-false, leb-true}
use Rattle.numbers.specs.Words.{when◌then◌else◌}
use Rattle.numbers.specs.declared.View.{View}
use Rattle.numbers.proofs.WordLaws.{split, and_right}
use Rattle.entries.specs.declared.Entry.{Entry}
use Rattle.config.specs.Replicas.{bit, Member, count_below}
use Rattle.config.specs.declared.Setup.{Setup}
use Rattle.config.proofs.ReplicaLaws.{another-in, another-out, another-count}
use Rattle.fees.specs.declared.Outcome.{Outcome}
use Rattle.clock.specs.declared.Clock.{Clock}
use Rattle.clock.specs.declared.Ticked.{Ticked}
use Rattle.frames.specs.Refusals.{check_frame}
use Rattle.frames.specs.declared.Status.{Status}
use Rattle.frames.specs.declared.Message.{Message}
use Rattle.frames.specs.declared.Message.TheVariants.{Request, Prepare, PrepareOk, Commit, GetState, NewState, StartViewChange, DoViewChange, StartView, Recovery, RecoveryResponse}
use Rattle.frames.specs.declared.Refusal.{Refusal}
use Rattle.model.specs.State.{Book, Held, Reported, Response, State, Sent, Reply, Answer}
use Rattle.model.specs.State.Answer.{refused, done}
use Rattle.model.specs.State.{after, ignored, set_place, set_book, set_votes, set_store, set_clock, set_status, set_acks}
use Rattle.model.specs.Sending.{send, to_others_below, to_others, to_primary, send_prepare, send_prepares, send_prepare_ok, send_commit, send_get_state, send_new_state}
use Rattle.model.specs.Sending.{start_view_of, send_start_view, send_start_view_change, do_view_change_to_primary, start_view_to_others, send_recovery_response, send_recovery}
use Rattle.model.specs.Normal.{heard_from_primary, committed, resend, acked, filled_gap, accepted, on_request, accept_from_primary, state_transfer}
use Rattle.model.specs.Normal.{prepared, take_prepare, on_prepare, take_commit, on_commit, on_prepare_ok, on_get_state, fill_gap, caught_up, catch_up, on_new_state}
use Rattle.model.specs.ViewChange.{cleared_votes, mark_sent, voted_for, report_noted, enter_normal, catching_up_with, catch_up_with_view, started_with, start_view}
use Rattle.model.specs.ViewChange.{start_chosen, record_do_view_change, send_do_view_change, enough, maybe_send_do_view_change, changing_to, start_view_change}
use Rattle.model.specs.ViewChange.{on_start_view_change, on_do_view_change, joined, on_start_view}
use Rattle.model.specs.Recovery.{noted, forgotten, on_recovery, recovered, recover_with, recover_from, recover_latest, on_recovery_response}
use Rattle.model.specs.Steps.{fitted, on_message, on_checked, primary_tick, next_view, follow_tick, change_tick, on_idle, on_frame, on_tick, new_at}
use Rattle.model.specs.Asked.{OthersAsked, Voted, Backed, AllBacked}
use Rattle.frames.specs.declared.Refusal.TheVariants.{OutOfRange, PastRoom, PastLog, NotRising, Uncommits, LastView, NoRoomForMessages, NoRoomForReplies}

-- what a call answers: its votes follow from those before it, and each DoViewChange is backed
pub data Fair (u : Setup) (Asked : ℕ → ℕ → Type 0) (m : State) : Answer → Type 0 where
  refusal : (k : Refusal) → Fair u Asked m (refused k)
  moved : {m' : State} (out : List Sent) (rs : List Reply) → (Voted u Asked m → Voted u Asked m' × AllBacked u Asked out) → Fair u Asked m (done m' out rs)

none_in : (k : ℕ) → bit 0 k ≡ 0
none_in k = ap (λ (x : ℕ). x % 2) (zero-div (2 ^ k))

module _ (u : Setup) (Asked : ℕ → ℕ → Type 0) where
  -- ---- votes

  -- the same view and votes
  kept : {m m' : State} → m'.place.view ≡ m.place.view → m'.votes.starts ≡ m.votes.starts → m'.votes.sent ≡ m.votes.sent
      → Voted u Asked m → Voted u Asked m'
  kept {m} {m'} v s t h =
      record {
        others =
            subst (λ (w : ℕ). OthersAsked u Asked w m'.votes.starts) (sym v)
            (subst (OthersAsked u Asked m.place.view) (sym s) h.others);
        half = λ e. subst (λ (x : ℕ). u.n / 2 ≤ count_below u.n x) (sym s) (h.half (sym t ∙ e));
      }

  -- no votes, in whatever view
  none-asked : (v : ℕ) → OthersAsked u Asked v 0
  none-asked v = record { own_out = none_in u.id; asked = λ r lt h. absurd (omega (arith, none_in r, h)) }

  pub no-votes : (m : State) → m.votes.starts ≡ 0 → m.votes.sent ≡ false → Voted u Asked m
  no-votes m s t =
      record {
        others = subst (OthersAsked u Asked m.place.view) (sym s) (none-asked m.place.view);
        half = λ e. absurd (false≢true (sym t ∙ e));
      }

  pub new-voted : (t : Status) (v x : ℕ) → Voted u Asked (new_at u t v x)
  unfolding new_at
  new-voted t v x = no-votes (new_at u t v x) refl refl

  -- one vote more: never our own
  pub vote-stays : (m : State) (r : ℕ) → Asked m.place.view r → Voted u Asked m → Voted u Asked (voted_for u m r)
  unfolding voted_for set_votes
  vote-stays m r a h =
      record {
        others =
            record {
              own_out = another-out m.votes.starts u.id r h.others.own_out;
              asked = λ j lt i. from j lt (another-in m.votes.starts u.id r j i);
            };
        half = λ e. omega (arith, h.half e, another-count u.n m.votes.starts u.id r);
      }
    where
      from : (j : ℕ) → j < u.n → Member j m.votes.starts ⊎ (j ≡ r) → Asked m.place.view j
      from j lt (inl old) = h.others.asked j lt old
      from j lt (inr e) = subst (Asked m.place.view) (sym e) a

  -- ---- messages

  both-backed : (xs ys : List Sent) → AllBacked u Asked xs → AllBacked u Asked ys → AllBacked u Asked (xs ++ ys)
  both-backed [] ys f g = g
  both-backed (x ∷ xs) ys f g = (f.0, both-backed xs ys f.1 g)

  below-backed : (k : ℕ) (x : Message) (log : List Entry) → Backed u Asked x → AllBacked u Asked (to_others_below u k x log)
  unfolding to_others_below send
  below-backed zero x log f = tt
  below-backed (suc k) x log f =
      both-backed (to_others_below u k x log) _ (below-backed k x log f) (split (AllBacked u Asked) _ _ _ (λ _. tt) (λ _. (f, tt)))

  others-backed : (x : Message) (log : List Entry) → Backed u Asked x → AllBacked u Asked (to_others u x log)
  unfolding to_others
  others-backed = below-backed u.n

  calls-backed : (v : ℕ) → AllBacked u Asked (send_start_view_change u v)
  unfolding send_start_view_change
  calls-backed v = others-backed _ [] tt

  prepares-backed : (m : State) (o : ℕ) (es : List Entry) → AllBacked u Asked (send_prepares u m o es)
  unfolding send_prepares send_prepare
  prepares-backed m o [] = tt
  prepares-backed m o (e ∷ es) = both-backed (send_prepare u m o e) _ (others-backed _ [] tt) (prepares-backed m (o + 1) es)

  heartbeat-backed : (m : State) → AllBacked u Asked (send_commit u m)
  unfolding send_commit
  heartbeat-backed m = others-backed _ [] tt

  ask-backed : (m : State) (o : ℕ) → AllBacked u Asked (send_get_state u m o)
  unfolding send_get_state to_primary send
  ask-backed m o = (tt, tt)

  ack-backed : (m : State) → AllBacked u Asked (send_prepare_ok u m)
  unfolding send_prepare_ok to_primary send
  ack-backed m = (tt, tt)

  started-backed : (m : State) (r : ℕ) → AllBacked u Asked (send_start_view m r)
  unfolding send_start_view start_view_of send
  started-backed m r = (tt, tt)

  -- our DoViewChange, with n/2 in the set
  report-backed : (m : State) → Voted u Asked m → u.n / 2 ≤ count_below u.n m.votes.starts → AllBacked u Asked (do_view_change_to_primary u m)
  unfolding do_view_change_to_primary to_primary send
  report-backed m h half = (record { ids = m.votes.starts; others = h.others; half = half }, tt)

  -- ---- answers

  cases : {m : State} (b : Bool) (x y : Answer) → (b ≡ true → Fair u Asked m x) → (b ≡ false → Fair u Asked m y) → Fair u Asked m (when b then x else y)
  cases {m} = split (Fair u Asked m)

  -- votes that follow, and messages that need nothing
  went : {m m' : State} {out : List Sent} (rs : List Reply) → (Voted u Asked m → Voted u Asked m') → AllBacked u Asked out
      → Fair u Asked m (done m' out rs)
  went rs f g = moved _ rs (λ h. (f h, g))

  -- one change after another
  since : {a b : State} {x : Answer} → (Voted u Asked a → Voted u Asked b) → Fair u Asked b x → Fair u Asked a x
  since n (refusal k) = refusal k
  since n (moved out rs g) = moved out rs (λ h. g (n h))

  ignored-fair : {m : State} → Fair u Asked m (ignored m)
  unfolding ignored
  ignored-fair = went [] (λ h. h) tt

  clock-kept : (m : State) (c : Clock) → Voted u Asked m → Voted u Asked (set_clock m c)
  unfolding set_clock
  clock-kept m c = kept refl refl refl

  book-kept : (m : State) (b : Book) → Voted u Asked m → Voted u Asked (set_book m b)
  unfolding set_book
  book-kept m b = kept refl refl refl

  acks-kept : (m : State) (a : List ℕ) → Voted u Asked m → Voted u Asked (set_acks m a)
  unfolding set_acks set_votes
  acks-kept m a = kept refl refl refl

  status-kept : (m : State) (s : Status) → Voted u Asked m → Voted u Asked (set_status m s)
  unfolding set_status set_place
  status-kept m s = kept refl refl refl

  heard-kept : (m : State) → Voted u Asked m → Voted u Asked (heard_from_primary m)
  unfolding heard_from_primary
  heard-kept m = clock-kept m _

  heard-fair : {m : State} → Fair u Asked m (ignored (heard_from_primary m))
  heard-fair {m} = since (heard-kept m) ignored-fair

  entered-voted : (m : State) (v : ℕ) (b : Book) (a : List ℕ) → Voted u Asked (enter_normal u m v b a)
  unfolding enter_normal
  entered-voted m v b a = no-votes (enter_normal u m v b a) refl refl

  changing-voted : (m : State) (v : ℕ) → Voted u Asked (changing_to u m v)
  unfolding changing_to cleared_votes
  changing-voted m v = no-votes (changing_to u m v) refl refl

  catching-voted : (m : State) (v : ℕ) → Voted u Asked (catching_up_with u m v)
  unfolding catching_up_with cleared_votes
  catching-voted m v = no-votes (catching_up_with u m v) refl refl

  -- ---- normal operation

  resend-fair : (m : State) (e : Entry) (k : Option Outcome) → Fair u Asked m (resend m e k)
  unfolding resend
  resend-fair m e none = ignored-fair
  resend-fair m e (some o) = went _ (λ h. h) tt

  request-fair : (m : State) (e : Entry) → Fair u Asked m (on_request u m e)
  unfolding on_request accepted send_prepare
  request-fair m e =
      cases _ _ _ (λ _. ignored-fair) λ _.
      cases _ _ _ (λ _. ignored-fair) λ _.
      cases _ _ _ (λ _. resend-fair m e _) λ _.
      cases _ _ _ (λ _. refusal PastRoom) λ _.
      cases _ _ _ (λ _. refusal NotRising) λ _.
      went [] (λ h. acks-kept _ _ (book-kept m _ h)) (others-backed _ [] tt)

  catch-fair : (m : State) (v : ℕ) → Fair u Asked m (catch_up_with_view u m v)
  unfolding catch_up_with_view
  catch-fair m v = cases _ _ _ (λ _. ignored-fair) (λ _. went [] (λ _. catching-voted m v) (ask-backed _ _))

  from-primary : (m : State) (v : ℕ) (rest : Answer) → Fair u Asked m rest → Fair u Asked m (accept_from_primary u m v rest)
  unfolding accept_from_primary
  from-primary m v rest g =
      cases _ _ _ (λ _. ignored-fair) λ _.
      cases _ _ _ (λ _. catch-fair m v) λ _.
      cases _ _ _ (λ _. since (heard-kept m) (catch-fair _ v)) λ _.
      cases _ _ _ (λ _. g) λ _.
      heard-fair

  transfer-fair : (m : State) → Fair u Asked m (state_transfer u m)
  unfolding state_transfer
  transfer-fair m = went [] (status-kept m _) (ask-backed m _)

  prepared-fair : (m : State) (c : ℕ) → Fair u Asked m (prepared u m c)
  unfolding prepared committed
  prepared-fair m c = went [] (book-kept m _) (ack-backed _)

  prepare-fair : (m : State) (v o c : ℕ) (e : Entry) → Fair u Asked m (on_prepare u m v o c e)
  unfolding on_prepare take_prepare
  prepare-fair m v o c e =
      from-primary m v _
      (cases _ _ _ (λ _. since (heard-kept m) (transfer-fair _)) λ _.
      cases _ _ _ (λ _. since (heard-kept m) (prepared-fair _ c)) λ _.
      cases _ _ _ (λ _. refusal PastRoom) λ _.
      cases _ _ _ (λ _. refusal NotRising) λ _.
      since (λ h. book-kept _ _ (heard-kept m h)) (prepared-fair _ c))

  commit-fair : (m : State) (v c : ℕ) → Fair u Asked m (on_commit u m v c)
  unfolding on_commit take_commit committed
  commit-fair m v c =
      from-primary m v _
      (cases _ _ _ (λ _. since (heard-kept m) (transfer-fair _)) (λ _. went [] (λ h. book-kept _ _ (heard-kept m h)) tt))

  prepare_ok-fair : (m : State) (v o r : ℕ) → Fair u Asked m (on_prepare_ok u m v o r)
  unfolding on_prepare_ok acked ignored committed
  prepare_ok-fair m v o r =
      cases _ _ _ (λ _. ignored-fair) λ _.
      cases _ _ _ (λ _. ignored-fair) λ _.
      cases _ _ _ (λ _. ignored-fair) λ _.
      cases _ _ _ (λ _. went [] (acks-kept m _) tt) λ _.
      cases _ _ _ (λ _. refusal PastLog) λ _.
      went _ (λ h. acks-kept _ _ (book-kept m _ h)) tt

  get_state-fair : (m : State) (r v o : ℕ) → Fair u Asked m (on_get_state u m r v o)
  unfolding on_get_state send_new_state send
  get_state-fair m r v o = cases _ _ _ (λ _. ignored-fair) (λ _. went [] (λ h. h) (tt, tt))

  new_state-fair : (m : State) (v a z c : ℕ) (es : List Entry) → Fair u Asked m (on_new_state u m v a z c es)
  unfolding on_new_state fill_gap filled_gap catch_up caught_up
  new_state-fair m v a z c es =
      cases _ _ _ (λ _. ignored-fair) λ _.
      cases _ _ _
      (λ _.
      cases _ _ _ (λ _. heard-fair) λ _.
      cases _ _ _ (λ _. refusal NotRising) λ _.
      went [] (λ h. status-kept _ _ (book-kept _ _ (heard-kept m h))) (ack-backed _)) λ _.
      cases _ _ _
      (λ _.
      cases _ _ _ (λ _. heard-fair) λ _.
      cases _ _ _ (λ _. refusal NotRising) λ _.
      went [] (λ _. entered-voted m _ _ _) (ack-backed _)) λ _.
      heard-fair

  -- ---- view change

  noted-kept : (m : State) (r : ℕ) (d : Reported) → Voted u Asked m → Voted u Asked (report_noted m r d)
  unfolding report_noted set_store
  noted-kept m r d = kept refl refl refl

  start_view-fair : (m : State) (log : List Entry) (c : ℕ) (out : List Sent) → AllBacked u Asked out → Fair u Asked m (start_view u m log c out)
  unfolding start_view started_with start_view_to_others start_view_of
  start_view-fair m log c out f =
      cases _ _ _ (λ _. refusal Uncommits) λ _.
      cases _ _ _ (λ _. refusal Uncommits) λ _.
      went _ (λ _. entered-voted m _ _ _) (both-backed out _ f (others-backed _ _ tt))

  chosen-fair : (m : State) (o : Option Reported) (out : List Sent) → AllBacked u Asked out → Fair u Asked m (start_chosen u m o out)
  unfolding start_chosen
  chosen-fair m none out f = went [] (λ h. h) f
  chosen-fair m (some best) out f = start_view-fair m _ _ out f

  record-fair : (m : State) (r : ℕ) (d : Reported) (out : List Sent) → AllBacked u Asked out → Fair u Asked m (record_do_view_change u m r d out)
  unfolding record_do_view_change
  record-fair m r d out f =
      cases _ _ _ (λ _. went [] (noted-kept m r d) f) (λ _. since (noted-kept m r d) (chosen-fair _ _ out f))

  -- ours goes out with n/2 in the set
  send-fair : (m : State) (out : List Sent) → (Voted u Asked m → u.n / 2 ≤ count_below u.n m.votes.starts) → AllBacked u Asked out
      → Fair u Asked m (send_do_view_change u m out)
  unfolding send_do_view_change
  send-fair m out half f =
      cases _ _ _ (λ _. record-fair m _ _ out f) (λ _. moved _ [] (λ h. (h, both-backed out _ f (report-backed m h (half h)))))

  enough-half : (m : State) → enough u m ≡ true → u.n / 2 ≤ count_below u.n m.votes.starts
  unfolding enough
  enough-half m e = leb-true _ _ (and_right _ _ (and_right _ _ (and_right _ _ e)))

  sent-voted : (m : State) → enough u m ≡ true → Voted u Asked m → Voted u Asked (mark_sent m)
  unfolding mark_sent set_votes
  sent-voted m e h = record { others = h.others; half = λ _. enough-half m e }

  maybe-fair : (m : State) (out : List Sent) → AllBacked u Asked out → Fair u Asked m (maybe_send_do_view_change u m out)
  unfolding maybe_send_do_view_change mark_sent set_votes
  maybe-fair m out f =
      cases _ _ _ (λ e. since (sent-voted m e) (send-fair _ out (λ _. enough-half m e) f)) (λ _. went [] (λ h. h) f)

  change-fair : (m : State) (v : ℕ) (out : List Sent) → AllBacked u Asked out → Fair u Asked m (start_view_change u m v out)
  unfolding start_view_change
  change-fair m v out f = went [] (λ _. changing-voted m v) (both-backed out _ f (calls-backed v))

  same_view : {v w : ℕ} → ltb v w ≡ false → ltb w v ≡ false → v ≡ w
  same_view {v} {w} a b = omega (arith, ltb-false v w a, ltb-false w v b)

  start_view_change-fair : (m : State) (v r : ℕ) → Asked v r → Fair u Asked m (on_start_view_change u m v r)
  unfolding on_start_view_change changing_to
  start_view_change-fair m v r a =
      cases _ _ _ (λ _. ignored-fair) λ up.
      cases _ _ _ (λ _. since (λ _. vote-stays (changing_to u m v) r a (changing-voted m v)) (maybe-fair _ _ (calls-backed v))) λ down.
      cases _ _ _ (λ _. since (vote-stays m r (subst (λ (w : ℕ). Asked w r) (same_view up down) a)) (maybe-fair _ [] tt)) λ _.
      cases _ _ _ (λ _. went [] (λ h. h) (started-backed m r)) (λ _. ignored-fair)

  do_view_change-fair : (m : State) (v r : ℕ) (d : Reported) → Fair u Asked m (on_do_view_change u m v r d)
  unfolding on_do_view_change
  do_view_change-fair m v r d =
      cases _ _ _ (λ _. ignored-fair) λ _.
      cases _ _ _ (λ _. since (λ _. changing-voted m v) (record-fair _ r d _ (calls-backed v))) λ _.
      cases _ _ _ (λ _. went [] (λ h. h) (started-backed m r)) (λ _. record-fair m r d [] tt)

  on_start_view-fair : (m : State) (v : ℕ) (k : Held) → Fair u Asked m (on_start_view u m v k)
  unfolding on_start_view joined
  on_start_view-fair m v k =
      cases _ _ _ (λ _. ignored-fair) λ _.
      cases _ _ _ (λ _. ignored-fair) λ _.
      cases _ _ _ (λ _. refusal Uncommits) (λ _. went [] (λ _. entered-voted m v _ _) (ack-backed _))

  -- ---- recovery

  answer-backed : (m : State) (r x : ℕ) → AllBacked u Asked (send_recovery_response u m r x)
  unfolding send_recovery_response send
  answer-backed m r x = split (AllBacked u Asked) _ _ _ (λ _. (tt, tt)) (λ _. (tt, tt))

  recovery-fair : (m : State) (r x v : ℕ) → Fair u Asked m (on_recovery u m r x v)
  unfolding on_recovery
  recovery-fair m r x v =
      cases _ _ _ (λ _. change-fair m v [] tt) λ _.
      cases _ _ _ (λ _. ignored-fair) (λ _. went [] (λ h. h) (answer-backed m r x))

  recover_with-fair : (m : State) (v w : ℕ) (k : Option Held) → Fair u Asked m (recover_with u m v w k)
  unfolding recover_with recovered
  recover_with-fair m v w none = ignored-fair
  recover_with-fair m v w (some k) =
      cases _ _ _ (λ _. ignored-fair) λ _.
      cases _ _ _ (λ _. refusal Uncommits) λ _.
      cases _ _ _ (λ _. refusal Uncommits) (λ _. went [] (λ _. entered-voted (forgotten u m) v _ _) tt)

  recover_from-fair : (m : State) (v : ℕ) (d : Option Response) → Fair u Asked m (recover_from u m v d)
  unfolding recover_from
  recover_from-fair m v none = ignored-fair
  recover_from-fair m v (some d) = recover_with-fair m v _ _

  response-kept : (m : State) (r : ℕ) (d : Response) → Voted u Asked m → Voted u Asked (noted m r d)
  unfolding noted set_store
  response-kept m r d = kept refl refl refl

  response-fair : (m : State) (v x r : ℕ) (k : Option Held) → Fair u Asked m (on_recovery_response u m v x r k)
  unfolding on_recovery_response recover_latest
  response-fair m v x r k =
      cases _ _ _ (λ _. ignored-fair)
      (λ _. since (response-kept m r _)
      (cases _ _ _ (λ _. ignored-fair) λ _. cases _ _ _ (λ _. ignored-fair) (λ _. recover_from-fair _ _ _)))

  -- ---- ticks

  next_view-fair : (m : State) (out : List Sent) → AllBacked u Asked out → Fair u Asked m (next_view u m out)
  unfolding next_view
  next_view-fair m out f = cases _ _ _ (λ _. refusal LastView) (λ _. change-fair m _ out f)

  primary_tick-fair : (m : State) → Fair u Asked m (primary_tick u m)
  unfolding primary_tick
  primary_tick-fair m =
      went [] (clock-kept m _)
      (both-backed (send_commit u m) _ (heartbeat-backed m)
      (prepares-backed m (m.book.commit + 1) (drop m.book.commit m.book.log)))

  follow_tick-fair : (m : State) (t : Ticked) (out : List Sent) → AllBacked u Asked out → Fair u Asked m (follow_tick u m t out)
  unfolding follow_tick
  follow_tick-fair m t out f =
      cases _ _ _ (λ _. since (clock-kept m _) (next_view-fair _ out f)) (λ _. went [] (clock-kept m _) f)

  -- a DoViewChange that went out goes out again: the n/2 are still in the set
  change_tick-fair : (m : State) (t : Ticked) → Fair u Asked m (change_tick u m t)
  unfolding change_tick set_clock
  change_tick-fair m t =
      cases _ _ _ (λ _. since (clock-kept m _) (next_view-fair _ [] tt)) λ _.
      cases _ _ _ (λ _. went [] (clock-kept m _) (ask-backed m _)) λ _.
      cases _ _ _ (λ e. since (clock-kept m _) (send-fair _ _ (λ h. h.half e) (calls-backed _))) λ _.
      went [] (clock-kept m _) (calls-backed _)

  idle-fair : (m : State) → Fair u Asked m (on_idle u m)
  unfolding on_idle send_recovery
  idle-fair m =
      cases _ _ _ (λ _. primary_tick-fair m) λ _.
      cases _ _ _ (λ _. follow_tick-fair m _ [] tt) λ _.
      cases _ _ _ (λ _. follow_tick-fair m _ _ (ask-backed m _)) λ _.
      cases _ _ _ (λ _. change_tick-fair m _) (λ _. went [] (λ h. h) (others-backed _ [] tt))

  -- ---- any frame, any tick

  message-fair : (m : State) (x : Message) (log : List Entry) → ((v : View) (r : ℕ) → x ≡ StartViewChange v r → Asked v.0 r)
      → Fair u Asked m (on_message u m x log)
  unfolding on_message
  message-fair m (Request e) log a = request-fair m e
  message-fair m (Prepare v o c e) log a = prepare-fair m v.0 o.0 c.0 e
  message-fair m (PrepareOk v o r) log a = prepare_ok-fair m v.0 o.0 r
  message-fair m (Commit v c) log a = commit-fair m v.0 c.0
  message-fair m (GetState r v o) log a = get_state-fair m r v.0 o.0
  message-fair m (NewState v b z c) log a = new_state-fair m v.0 b.0 z.0 c.0 log
  message-fair m (StartViewChange v r) log a = start_view_change-fair m v.0 r (a v r refl)
  message-fair m (DoViewChange v r l o c) log a = do_view_change-fair m v.0 r _
  message-fair m (StartView v o c) log a = on_start_view-fair m v.0 _
  message-fair m (Recovery r x v) log a = recovery-fair m r x v.0
  message-fair m (RecoveryResponse v x r t) log a = response-fair m v.0 x r _

  checked-fair : (m : State) (s : List ℕ) (x : Result Message Refusal) → ((v : View) (r : ℕ) → x ≡ Ok (StartViewChange v r) → Asked v.0 r)
      → Fair u Asked m (on_checked u m s x)
  unfolding on_checked
  checked-fair m s (Err k) a = refusal k
  checked-fair m s (Ok x) a =
      cases _ _ _ (λ _. ignored-fair) (λ _. message-fair m x _ (λ v r e. a v r (ap Ok e)))

  fitted-fair : (m : State) (a b : ℕ) (x : Answer) → Fair u Asked m x → Fair u Asked m (fitted a b x)
  unfolding fitted
  fitted-fair m a b (refused k) g = g
  fitted-fair m a b (done m' out rs) g = cases _ _ _ (λ _. refusal NoRoomForMessages) λ _. cases _ _ _ (λ _. refusal NoRoomForReplies) (λ _. g)

  pub frame-fair : (m : State) (s : List ℕ) (a b : ℕ) → ((v : View) (r : ℕ) → check_frame u s ≡ Ok (StartViewChange v r) → Asked v.0 r)
      → Fair u Asked m (on_frame u m s a b)
  unfolding on_frame
  frame-fair m s a b f = cases _ _ _ (λ _. refusal OutOfRange) (λ _. fitted-fair m a b _ (checked-fair m s (check_frame u s) f))

  pub tick-fair : (m : State) (a b : ℕ) → Fair u Asked m (on_tick u m a b)
  unfolding on_tick
  tick-fair m a b = cases _ _ _ (λ _. refusal OutOfRange) (λ _. fitted-fair m a b _ (idle-fair m))

  -- what a call leaves, and what it sends
  pub after-voted : {m : State} {x : Answer} → Fair u Asked m x → Voted u Asked m → Voted u Asked (after m x)
  unfolding after
  after-voted (refusal k) h = h
  after-voted (moved out rs g) h = (g h).0
