-- Each handler keeps the invariant, and never takes the view back: one lemma for each. Assumes nothing.
use Prim.Native.Nat.{ℕ, zero, suc, ◌+◌, ◌-◌, ◌≤◌, ◌<◌, min}
use native.Mathlib.Nat.{le_refl, le_of_lt}
use native.Mathlib.Omega.{arith}
use mathlib.Core.Path.{◌≡◌, refl}
use mathlib.Core.Bool.{Bool, true, false, not}
use mathlib.Core.List.{List, [], ◌∷◌, ◌++◌}
use mathlib.Core.Option.{Option, none, some}
use lib.Dec.{ltb, leb, eqb}
use lib.ListN.{length, drop, get_or, set, replicate, length-drop}
use borrow.Author.Tests.{ltb-true, ltb-false, leb-false, eqb-true, not-false}
use Rattle.numbers.specs.Words.{when◌then◌else◌, ◌or◌}
use Rattle.numbers.proofs.WordLaws.{split, or_left, or_right}
use Rattle.entries.specs.Rising.{rising}
use Rattle.entries.specs.declared.Entry.{Entry}
use Rattle.config.specs.declared.Setup.{Setup}
use Rattle.fees.specs.declared.Outcome.{Outcome}
use Rattle.clock.specs.declared.Clock.{Clock}
use Rattle.clock.specs.declared.Ticked.{Ticked}
use Rattle.model.specs.State.{Book, Votes, Held, Reported, Response, Store, State, Sent, Reply, Answer}
use Rattle.model.specs.State.Answer.{refused, done}
use Rattle.model.specs.State.{after, ignored, set_place, set_book, set_votes, set_store, set_clock, set_status, set_acks, op_of}
use Rattle.model.specs.Book.{commit_up_to, install, agree}
use Rattle.model.specs.Sending.{primary}
use Rattle.model.specs.Normal.{heard_from_primary, committed, resend, acked, filled_gap, committed_then, accepted, on_request, accept_from_primary}
use Rattle.model.specs.Normal.{state_transfer, prepared, take_prepare, on_prepare, take_commit, on_commit, on_prepare_ok, on_get_state, fill_gap, caught_up, catch_up, on_new_state}
use Rattle.model.specs.ViewChange.{better, chosen, held_by, our_report, mark_sent, voted_for, report_noted, no_reports, cleared_store, enter_normal}
use Rattle.model.specs.ViewChange.{catching_up_with, catch_up_with_view, started_with, start_view, start_chosen, record_do_view_change, send_do_view_change}
use Rattle.model.specs.ViewChange.{maybe_send_do_view_change, changing_to, start_view_change, on_start_view_change, on_do_view_change, joined, on_start_view}
use Rattle.model.specs.Recovery.{noted, no_responses, forgotten, on_recovery, recovered, recover_with, recover_from, recover_latest, on_recovery_response}
use Rattle.model.specs.Steps.{primary_tick, next_view, follow_tick, change_tick, on_idle}
use Rattle.safety.specs.Demand.{At, Every, StoredSound, SoundReport, SoundResponse}
use Rattle.safety.proofs.Books.{BookInv, Grown, Ok, same_ok, append-ok, commit-ok, agreed-ok, gap-ok, join-ok, then_ok}
use Rattle.frames.specs.declared.Refusal.TheVariants.{PastRoom, PastLog, NotRising, Uncommits, LastView}
use Rattle.frames.specs.declared.Refusal.{Refusal}

-- places, each that is filled
module _ {A : Type 0} (P : A → Type 0) where
  pub every-none : (n : ℕ) → Every P (replicate n none)
  every-none zero = tt
  every-none (suc n) = (tt, every-none n)

  pub every_set : (xs : List (Option A)) (i : ℕ) (a : A) → Every P xs → P a → Every P (set xs i (some a))
  every_set [] i a h p = tt
  every_set (x ∷ xs) zero a h p = (p, h.1)
  every_set (x ∷ xs) (suc i) a h p = (h.0, every_set xs i a h.1 p)

  pub every_get : (xs : List (Option A)) (i : ℕ) → Every P xs → At P (get_or xs i none)
  every_get [] i h = tt
  every_get (x ∷ xs) zero h = h.0
  every_get (x ∷ xs) (suc i) h = every_get xs i h.1

-- what holds of each report holds of the chosen one
module _ (P : Reported → Type 0) where
  better-has : (a : Reported) (b : Option Reported) → P a → At P b → P (better a b)
  unfolding better
  better-has a none p q = p
  better-has a (some b) p q = split P _ _ _ (λ _. p) λ _. split P _ _ _ (λ _. p) (λ _. q)

  pub chosen-has : (xs : List (Option Reported)) → Every P xs → At P (chosen xs)
  unfolding chosen
  chosen-has [] h = tt
  chosen-has (none ∷ xs) h = chosen-has xs h.1
  chosen-has (some a ∷ xs) h = better-has a (chosen xs) h.0 (chosen-has xs h.1)

-- the invariant
pub record StoreInv (u : Setup) (t : Store) : Type 0 where
  pub reports : Every (SoundReport u) t.reports
  pub responses : Every (SoundResponse u) t.responses

pub record Inv (u : Setup) (m : State) : Type 0 where
  pub book : BookInv u m.book
  pub store : StoreInv u m.store

-- from one state to the next
pub record Next (u : Setup) (m m' : State) : Type 0 where
  pub view-up : m.place.view ≤ m'.place.view
  pub book-ok : Inv u m → Grown u m.book m'.book
  pub store_ok : Inv u m → StoreInv u m'.store

-- what a call answers
pub data Good (u : Setup) (m : State) : Answer → Type 0 where
  refusal : (k : Refusal) → Good u m (refused k)
  moved : {m' : State} (out : List Sent) (rs : List Reply) → Next u m m' → Good u m (done m' out rs)

module _ (u : Setup) where
  pub cases : {m : State} (b : Bool) (x y : Answer) → (b ≡ true → Good u m x) → (b ≡ false → Good u m y) → Good u m (when b then x else y)
  cases {m} = split (Good u m)

  -- the same view or a later one, and the same book and store
  pub still : {m m' : State} → m.place.view ≤ m'.place.view → m'.book ≡ m.book → m'.store ≡ m.store → Next u m m'
  still {m} v e f =
      record { view-up = v; book-ok = λ i. rw e (same_ok u m.book i.book); store_ok = λ i. rw f i.store }

  -- a book that followed, and the same store
  booked : {m m' : State} → m.place.view ≤ m'.place.view → Ok u m.book m'.book → m'.store ≡ m.store → Next u m m'
  booked v g f = record { view-up = v; book-ok = λ i. g i.book; store_ok = λ i. rw f i.store }

  cleared : (m : State) → Inv u m → StoreInv u (cleared_store u m)
  unfolding cleared_store no_reports
  cleared m i = record { reports = every-none (SoundReport u) u.n; responses = i.store.responses }

  -- one change after another
  pub next-next : {a b c : State} → Next u a b → Next u b c → Next u a c
  next-next {a} {b} x y =
      let i' : Inv u a → Inv u b = λ i. record { book = (x.book-ok i).inv; store = x.store_ok i } in
      record {
        view-up = omega arith;
        book-ok = λ i. then_ok u _ _ _ (λ _. x.book-ok i) (λ _. y.book-ok (i' i)) i.book;
        store_ok = λ i. y.store_ok (i' i);
      }

  since : {a b : State} {x : Answer} → Next u a b → Good u b x → Good u a x
  since n (refusal k) = refusal k
  since n (moved out rs g) = moved out rs (next-next n g)

  -- parts of the handlers
  pub ignored-good : {m : State} → Good u m (ignored m)
  unfolding ignored
  ignored-good = moved [] [] (still (le_refl _) refl refl)

  clock-next : (m : State) (c : Clock) → Next u m (set_clock m c)
  unfolding set_clock
  clock-next m c = still (le_refl _) refl refl

  heard-next : (m : State) → Next u m (heard_from_primary m)
  unfolding heard_from_primary
  heard-next m = clock-next m _

  heard-good : {m : State} → Good u m (ignored (heard_from_primary m))
  heard-good {m} = since (heard-next m) ignored-good

  votes-next : (m : State) (v : Votes) → Next u m (set_votes m v)
  unfolding set_votes
  votes-next m v = still (le_refl _) refl refl

  acks-next : (m : State) (a : List ℕ) → Next u m (set_acks m a)
  unfolding set_acks
  acks-next m a = votes-next m _

  book-next : (m : State) (b : Book) → Ok u m.book b → Next u m (set_book m b)
  unfolding set_book
  book-next m b g = booked (le_refl _) g refl

  -- Request
  resend-good : (m : State) (e : Entry) (k : Option Outcome) → Good u m (resend m e k)
  unfolding resend
  resend-good m e none = ignored-good
  resend-good m e (some o) = moved _ _ (still (le_refl _) refl refl)

  pub request-good : (m : State) (e : Entry) → Good u m (on_request u m e)
  unfolding on_request accepted op_of
  request-good m e =
      cases _ _ _ (λ _. ignored-good) λ _.
      cases _ _ _ (λ _. ignored-good) λ _.
      cases _ _ _ (λ _. resend-good m e _) λ _.
      cases _ _ _ (λ _. refusal PastRoom) λ room.
      cases _ _ _ (λ _. refusal NotRising) λ rises.
      moved _ _ (next-next (book-next m _ (append-ok u m.book e (leb-false _ _ room) (not-false _ rises))) (acks-next _ _))

  -- Prepare and Commit
  catching-good : (m : State) (v : ℕ) → m.place.view ≤ v → Good u m (catch_up_with_view u m v)
  unfolding catch_up_with_view catching_up_with
  catching-good m v h =
      cases _ _ _ (λ _. ignored-good)
      (λ _. moved _ _ (record { view-up = h; book-ok = λ i. same_ok u _ i.book; store_ok = cleared m }))

  from-primary : (m : State) (v : ℕ) (rest : Answer) → Good u m rest → Good u m (accept_from_primary u m v rest)
  unfolding accept_from_primary heard_from_primary set_clock
  from-primary m v rest g =
      cases _ _ _ (λ _. ignored-good) λ h.
      cases _ _ _ (λ _. catching-good m v (ltb-false _ _ h)) λ _.
      cases _ _ _ (λ _. since (heard-next m) (catching-good _ v (ltb-false _ _ h))) λ _.
      cases _ _ _ (λ _. g) λ _.
      heard-good

  transfer-good : (m : State) → Good u m (state_transfer u m)
  unfolding state_transfer set_status set_place
  transfer-good m = moved _ _ (still (le_refl _) refl refl)

  committed-next : (m : State) (k : ℕ) → k ≤ length m.book.log → Next u m (committed m k)
  unfolding committed
  committed-next m k h = book-next m _ (commit-ok u m.book k h)

  prepared-good : (m : State) (c : ℕ) → Good u m (prepared u m c)
  unfolding prepared op_of
  prepared-good m c = moved _ _ (committed-next m (min c (length m.book.log)) (omega arith))

  take-prepare : (m : State) (o c : ℕ) (e : Entry) → Good u m (take_prepare u m o c e)
  unfolding take_prepare op_of heard_from_primary set_clock
  take-prepare m o c e =
      cases _ _ _ (λ _. since (heard-next m) (transfer-good _)) λ _.
      cases _ _ _ (λ _. since (heard-next m) (prepared-good _ c)) λ _.
      cases _ _ _ (λ _. refusal PastRoom) λ room.
      cases _ _ _ (λ _. refusal NotRising) λ rises.
      since (next-next (heard-next m) (book-next _ _ (append-ok u m.book e (leb-false _ _ room) (not-false _ rises))))
      (prepared-good _ c)

  pub prepare-good : (m : State) (v o c : ℕ) (e : Entry) → Good u m (on_prepare u m v o c e)
  unfolding on_prepare
  prepare-good m v o c e = from-primary m v _ (take-prepare m o c e)

  take-commit : (m : State) (c : ℕ) → Good u m (take_commit u m c)
  unfolding take_commit op_of heard_from_primary set_clock
  take-commit m c =
      cases _ _ _ (λ _. since (heard-next m) (transfer-good _)) λ h.
      moved _ _ (next-next (heard-next m) (committed-next _ c (ltb-false _ _ h)))

  pub commit-good : (m : State) (v c : ℕ) → Good u m (on_commit u m v c)
  unfolding on_commit
  commit-good m v c = from-primary m v _ (take-commit m c)

  -- PrepareOk
  pub prepare_ok-good : (m : State) (v o r : ℕ) → Good u m (on_prepare_ok u m v o r)
  unfolding on_prepare_ok acked ignored op_of
  prepare_ok-good m v o r =
      cases _ _ _ (λ _. ignored-good) λ _.
      cases _ _ _ (λ _. ignored-good) λ _.
      cases _ _ _ (λ _. ignored-good) λ _.
      cases _ _ _ (λ _. moved _ _ (acks-next m _)) λ _.
      cases _ _ _ (λ _. refusal PastLog) λ h.
      moved _ _ (next-next (committed-next m o (ltb-false _ _ h)) (acks-next _ _))

  -- GetState and NewState
  pub get_state-good : (m : State) (r v o : ℕ) → Good u m (on_get_state u m r v o)
  unfolding on_get_state
  get_state-good m r v o = cases _ _ _ (λ _. ignored-good) (λ _. moved _ _ (still (le_refl _) refl refl))

  entered-next : (m : State) (v : ℕ) (b : Book) (a : List ℕ) → m.place.view ≤ v → (Inv u m → Grown u m.book b)
      → Next u m (enter_normal u m v b a)
  unfolding enter_normal
  entered-next m v b a h g = record { view-up = h; book-ok = g; store_ok = cleared m }

  -- a NewState from a to z, with its entries
  module _ (m : State) (a z c : ℕ) (es : List Entry) (all : a + length es ≡ z) (room : z ≤ u.room) (c-le : c ≤ z) where
    gap-next : (ltb (op_of m) a or leb z (op_of m)) ≡ false → not (rising (m.book.log ++ drop (op_of m - a) es)) ≡ false
        → Next u m (filled_gap m c (drop (op_of m - a) es))
    unfolding op_of filled_gap set_status set_place set_book heard_from_primary set_clock
    gap-next fit rises =
        let starts : a ≤ length m.book.log = ltb-false _ _ (or_left _ _ fit) in
        let ends : length m.book.log < z = leb-false _ _ (or_right _ _ fit) in
        let more : length (drop (length m.book.log - a) es) ≡ length es - (length m.book.log - a) = length-drop _ es in
        booked (le_refl _) (gap-ok u m.book _ c (omega arith) (not-false _ rises) (omega arith)) refl

    gap-good : Good u m (fill_gap u m a z c es)
    unfolding fill_gap
    gap-good =
        cases _ _ _ (λ _. heard-good) λ fit.
        cases _ _ _ (λ _. refusal NotRising) λ rises.
        moved _ _ (gap-next fit rises)

    join-next : not (eqb a m.book.commit) ≡ false → not (rising (committed_then m es)) ≡ false → Next u m (caught_up u m c es)
    unfolding caught_up committed_then
    join-next at rises =
        let here : a ≡ m.book.commit = eqb-true _ _ (not-false _ at) in
        entered-next m _ _ _ (le_refl _) (λ i. join-ok u m.book es c (omega arith) (not-false _ rises) (omega arith) i.book)

    join-good : Good u m (catch_up u m a c es)
    unfolding catch_up
    join-good =
        cases _ _ _ (λ _. heard-good) λ at.
        cases _ _ _ (λ _. refusal NotRising) λ rises.
        moved _ _ (join-next at rises)

    pub new_state-good : (v : ℕ) → Good u m (on_new_state u m v a z c es)
    unfolding on_new_state
    new_state-good v =
        cases _ _ _ (λ _. ignored-good) λ _.
        cases _ _ _ (λ _. gap-good) λ _.
        cases _ _ _ (λ _. join-good) λ _.
        heard-good

  -- reports: DoViewChange, and our own
  recorded-next : (m : State) (r : ℕ) (d : Reported) → (Inv u m → SoundReport u d) → Next u m (report_noted m r d)
  unfolding report_noted set_store
  recorded-next m r d p =
      record {
        view-up = le_refl _;
        book-ok = λ i. same_ok u _ i.book;
        store_ok =
            λ i. record { reports = every_set (SoundReport u) m.store.reports r d i.store.reports (p i); responses = i.store.responses };
      }

  installed : (m : State) (log : List Entry) (c : ℕ) → length log ≤ u.room → rising log ≡ true
      → agree m.book.commit log m.book.log ≡ true → c ≤ length log → Ok u m.book (commit_up_to (install m.book log) c)
  unfolding install
  installed m log c h r a k = then_ok u _ _ _ (agreed-ok u m.book log h r a) (commit-ok u _ c k)

  start_view-good : (m : State) (best : Held) (c : ℕ) (out : List Sent) → (Inv u m → StoredSound u best) → Good u m (start_view u m best.log c out)
  unfolding start_view started_with
  start_view-good m best c out p =
      cases _ _ _ (λ _. refusal Uncommits) λ ok.
      cases _ _ _ (λ _. refusal Uncommits) λ fit.
      moved _ _
      (entered-next m _ _ _ (le_refl _)
      (λ i. installed m _ c (p i).fits (p i).rises (not-false _ ok) (ltb-false _ _ fit) i.book))

  chosen-good : (m : State) (o : Option Reported) (out : List Sent) → (Inv u m → At (SoundReport u) o) → Good u m (start_chosen u m o out)
  unfolding start_chosen
  chosen-good m none out p = moved _ _ (still (le_refl _) refl refl)
  chosen-good m (some best) out p = start_view-good m best.held _ out p

  record-good : (m : State) (r : ℕ) (d : Reported) (out : List Sent) → (Inv u m → SoundReport u d) → Good u m (record_do_view_change u m r d out)
  unfolding record_do_view_change
  record-good m r d out p =
      cases _ _ _ (λ _. moved _ _ (recorded-next m r d p)) λ _.
      since (recorded-next m r d p) (chosen-good _ _ out (λ i. chosen-has (SoundReport u) _ i.store.reports))

  own-sound : (m : State) → Inv u m → SoundReport u (our_report m)
  unfolding our_report held_by
  own-sound m i = record { fits = i.book.log-fits; rises = i.book.log-rises; commit-le = i.book.commit-le }

  send-good : (m : State) (out : List Sent) → Good u m (send_do_view_change u m out)
  unfolding send_do_view_change
  send-good m out =
      cases _ _ _ (λ _. record-good m _ _ out (own-sound m)) (λ _. moved _ _ (still (le_refl _) refl refl))

  maybe-good : (m : State) (out : List Sent) → Good u m (maybe_send_do_view_change u m out)
  unfolding maybe_send_do_view_change mark_sent
  maybe-good m out =
      cases _ _ _ (λ _. since (votes-next m _) (send-good _ out)) (λ _. moved _ _ (still (le_refl _) refl refl))

  changing-next : (m : State) (v : ℕ) → m.place.view ≤ v → Next u m (changing_to u m v)
  unfolding changing_to
  changing-next m v h = record { view-up = h; book-ok = λ i. same_ok u _ i.book; store_ok = cleared m }

  change-good : (m : State) (v : ℕ) (out : List Sent) → m.place.view ≤ v → Good u m (start_view_change u m v out)
  unfolding start_view_change
  change-good m v out h = moved _ _ (changing-next m v h)

  -- StartViewChange
  vote-next : (m : State) (r : ℕ) → Next u m (voted_for u m r)
  unfolding voted_for
  vote-next m r = votes-next m _

  pub start_view_change-good : (m : State) (v r : ℕ) → Good u m (on_start_view_change u m v r)
  unfolding on_start_view_change
  start_view_change-good m v r =
      cases _ _ _ (λ _. ignored-good) λ h.
      cases _ _ _ (λ _. since (next-next (changing-next m v (ltb-false _ _ h)) (vote-next _ r)) (maybe-good _ _)) λ _.
      cases _ _ _ (λ _. since (vote-next m r) (maybe-good _ _)) λ _.
      cases _ _ _ (λ _. moved _ _ (still (le_refl _) refl refl)) (λ _. ignored-good)

  -- DoViewChange
  pub do_view_change-good : (m : State) (v r : ℕ) (d : Reported) → SoundReport u d → Good u m (on_do_view_change u m v r d)
  unfolding on_do_view_change
  do_view_change-good m v r d p =
      cases _ _ _ (λ _. ignored-good) λ h.
      cases _ _ _ (λ _. since (changing-next m v (ltb-false _ _ (or_left _ _ h))) (record-good _ r d _ (λ _. p))) λ _.
      cases _ _ _ (λ _. moved _ _ (still (le_refl _) refl refl)) λ _.
      record-good m r d _ (λ _. p)

  -- StartView
  pub on_start_view-good : (m : State) (v : ℕ) (h : Held) → StoredSound u h → Good u m (on_start_view u m v h)
  unfolding on_start_view joined
  on_start_view-good m v h p =
      cases _ _ _ (λ _. ignored-good) λ view.
      cases _ _ _ (λ _. ignored-good) λ _.
      cases _ _ _ (λ _. refusal Uncommits) λ agrees.
      moved _ _
      (entered-next m v _ _ (ltb-false _ _ view)
      (λ i. installed m _ _ p.fits p.rises (not-false _ agrees) p.commit-le i.book))

  -- Recovery and RecoveryResponse
  pub recovery-good : (m : State) (r x v : ℕ) → Good u m (on_recovery u m r x v)
  unfolding on_recovery
  recovery-good m r x v =
      cases _ _ _ (λ h. change-good m v _ (le_of_lt (ltb-true _ _ h))) λ _.
      cases _ _ _ (λ _. ignored-good) (λ _. moved _ _ (still (le_refl _) refl refl))

  noted-next : (m : State) (r : ℕ) (d : Response) → SoundResponse u d → Next u m (noted m r d)
  unfolding noted set_store
  noted-next m r d p =
      record {
        view-up = le_refl _;
        book-ok = λ i. same_ok u _ i.book;
        store_ok =
            λ i. record { reports = i.store.reports; responses = every_set (SoundResponse u) m.store.responses r d i.store.responses p };
      }

  recovered-next : (m : State) (v : ℕ) (h : Held) → m.place.view ≤ v → (Inv u m → StoredSound u h) → agree m.book.commit h.log m.book.log ≡ true
      → Next u m (recovered u m v h)
  unfolding recovered forgotten enter_normal set_store cleared_store no_reports no_responses
  recovered-next m v h up p a =
      record {
        view-up = up;
        book-ok = λ i. installed m _ _ (p i).fits (p i).rises a (p i).commit-le i.book;
        store_ok = λ i. record { reports = every-none (SoundReport u) u.n; responses = every-none (SoundResponse u) u.n };
      }

  recover_with-good : (m : State) (v w : ℕ) (h : Option Held) → (Inv u m → At (StoredSound u) h) → Good u m (recover_with u m v w h)
  unfolding recover_with
  recover_with-good m v w none p = ignored-good
  recover_with-good m v w (some h) p =
      cases _ _ _ (λ _. ignored-good) λ _.
      cases _ _ _ (λ _. refusal Uncommits) λ agrees.
      cases _ _ _ (λ _. refusal Uncommits) λ up.
      moved _ _ (recovered-next m v h (ltb-false _ _ up) p (not-false _ agrees))

  recover_from-good : (m : State) (v : ℕ) (d : Option Response) → (Inv u m → At (SoundResponse u) d) → Good u m (recover_from u m v d)
  unfolding recover_from
  recover_from-good m v none p = ignored-good
  recover_from-good m v (some d) p = recover_with-good m v _ _ p

  recover_latest-good : (m : State) (v : ℕ) → Good u m (recover_latest u m v)
  unfolding recover_latest
  recover_latest-good m v =
      cases _ _ _ (λ _. ignored-good) λ _.
      cases _ _ _ (λ _. ignored-good) λ _.
      recover_from-good m v _ (λ i. every_get (SoundResponse u) m.store.responses (primary u v) i.store.responses)

  pub response-good : (m : State) (v x r : ℕ) (h : Option Held) → At (StoredSound u) h → Good u m (on_recovery_response u m v x r h)
  unfolding on_recovery_response
  response-good m v x r h p =
      cases _ _ _ (λ _. ignored-good) (λ _. since (noted-next m r _ p) (recover_latest-good _ _))

  -- the tick
  next_view-good : (m : State) (out : List Sent) → Good u m (next_view u m out)
  unfolding next_view
  next_view-good m out = cases _ _ _ (λ _. refusal LastView) (λ _. change-good m (m.place.view + 1) out (omega arith))

  primary_tick-good : (m : State) → Good u m (primary_tick u m)
  unfolding primary_tick
  primary_tick-good m = moved _ _ (clock-next m _)

  follow_tick-good : (m : State) (t : Ticked) (out : List Sent) → Good u m (follow_tick u m t out)
  unfolding follow_tick
  follow_tick-good m t out =
      cases _ _ _ (λ _. since (clock-next m _) (next_view-good _ out)) λ _.
      moved _ _ (clock-next m _)

  change_tick-good : (m : State) (t : Ticked) → Good u m (change_tick u m t)
  unfolding change_tick
  change_tick-good m t =
      cases _ _ _ (λ _. since (clock-next m _) (next_view-good _ _)) λ _.
      cases _ _ _ (λ _. moved _ _ (clock-next m _)) λ _.
      cases _ _ _ (λ _. since (clock-next m _) (send-good _ _)) λ _.
      moved _ _ (clock-next m _)

  pub idle-good : (m : State) → Good u m (on_idle u m)
  unfolding on_idle
  idle-good m =
      cases _ _ _ (λ _. primary_tick-good m) λ _.
      cases _ _ _ (λ _. follow_tick-good m _ _) λ _.
      cases _ _ _ (λ _. follow_tick-good m _ _) λ _.
      cases _ _ _ (λ _. change_tick-good m _) λ _.
      moved _ _ (still (le_refl _) refl refl)

  pub after_next : {m : State} {x : Answer} → Good u m x → Next u m (after m x)
  unfolding after
  after_next (refusal k) = still (le_refl _) refl refl
  after_next (moved out rs g) = g
