-- Each change that the handlers make keeps the numbers of the state in their ranges: one lemma for each. Assumes nothing.
use Prim.Native.Nat.{ℕ, zero, suc, ◌-◌, ◌≤◌, ◌<◌}
use native.Mathlib.Nat.{le_refl}
use native.Mathlib.Omega.{arith}
use mathlib.Core.Path.{◌≡◌, ◌∙◌}
use mathlib.Core.Bool.{Bool, false}
use mathlib.Core.List.{List, [], ◌∷◌, ◌++◌}
use mathlib.Core.Option.{none, some}
use lib.ListN.{length, take, drop, get_or, set, replicate, length-append, length-drop, length-set, length-replicate}
use lib.Pow.{pow_pos}
use Rattle.numbers.specs.Words.{All}
use Rattle.numbers.proofs.WordLaws.{split}
use Rattle.entries.specs.Entries.{operation_of, EntryFits}
use Rattle.entries.specs.declared.Entry.{Entry}
use Rattle.config.specs.declared.Setup.{Setup}
use Rattle.config.proofs.ReplicaLaws.{with-lt, another-lt}
use Rattle.fees.specs.declared.Outcome.{Outcome}
use Rattle.fees.proofs.FeeLaws.{fee-small}
use Rattle.clock.specs.Clock.{clock, waited_of, stable_tick, wait_tick, tick_of, start_of}
use Rattle.clock.specs.declared.Clock.{Clock}
use Rattle.clock.specs.declared.Ticked.{Ticked}
use Rattle.clock.specs.declared.Duty.{Duty}
use Rattle.clock.specs.declared.Duty.TheVariants.{Lead, Follow, Change}
use Rattle.frames.specs.declared.Status.{Status}
use Rattle.model.specs.State.{Place, Book, Votes, Reported, Response, Store, State}
use Rattle.state.specs.Statuses.{is_changing}
use Rattle.model.specs.State.{set_place, set_book, set_votes, set_store, set_clock, set_status, set_acks, op_of}
use Rattle.model.specs.Book.{outcome, totals_after, through, append, append_all, due_entries, commit_up_to, install, empty_book}
use Rattle.model.specs.Normal.{heard_from_primary, committed, ack_row, acked, blanked, accepted}
use Rattle.model.specs.ViewChange.{held_by, our_report, cleared_votes, mark_sent, voted_for, report_noted, no_reports, no_acks, own_vote, cleared_store}
use Rattle.model.specs.ViewChange.{enter_normal, catching_up_with, acks_from, changing_to}
use Rattle.model.specs.Recovery.{noted, no_responses, forgotten}
use Rattle.model.specs.Steps.{new_at}
use Rattle.model.proofs.BookLaws.{commit_all-log, commit_all-totals}
use Rattle.safety.specs.Demand.{Every}
use Rattle.safety.specs.Ranges.{Below, Small, ReportedFits, ResponseFits, Ranges}
use Rattle.safety.proofs.Handlers.{every-none, every_set}

-- each of a list
module _ {A : Type 0} (P : A → Type 0) where
  pub all_append : (xs ys : List A) → All P xs → All P ys → All P (xs ++ ys)
  all_append [] ys p q = q
  all_append (x ∷ xs) ys p q = (p.0, all_append xs ys p.1 q)

  pub all_take : (k : ℕ) (xs : List A) → All P xs → All P (take k xs)
  all_take zero xs p = tt
  all_take (suc k) [] p = tt
  all_take (suc k) (x ∷ xs) p = (p.0, all_take k xs p.1)

  pub all_drop : (k : ℕ) (xs : List A) → All P xs → All P (drop k xs)
  all_drop zero xs p = p
  all_drop (suc k) [] p = tt
  all_drop (suc k) (x ∷ xs) p = all_drop k xs p.1

  all_set : (xs : List A) (i : ℕ) (a : A) → All P xs → P a → All P (set xs i a)
  all_set [] i a p q = tt
  all_set (x ∷ xs) zero a p q = (q, p.1)
  all_set (x ∷ xs) (suc i) a p q = (p.0, all_set xs i a p.1 q)

  all-get : (xs : List A) (i : ℕ) (d : A) → All P xs → P d → P (get_or xs i d)
  all-get [] i d p q = q
  all-get (x ∷ xs) zero d p q = p.0
  all-get (x ∷ xs) (suc i) d p q = all-get xs i d p.1 q

  pub all_same : (n : ℕ) (a : A) → P a → All P (replicate n a)
  all_same zero a q = tt
  all_same (suc n) a q = (q, all_same n a q)

-- ---- the ranges, by what changes together

pub record PlaceIn (p : Place) : Type 0 where
  pub view : p.view < 4294967296
  pub last : p.last_normal ≤ p.view

pub record BookIn (b : Book) : Type 0 where
  pub log : All EntryFits b.log
  pub totals : All Small b.totals

pub record AcksIn (u : Setup) (a : List ℕ) : Type 0 where
  pub count : length a ≡ u.room
  pub below : All (Below u.n) a

pub record VotesIn (u : Setup) (v : Votes) : Type 0 where
  pub acks : AcksIn u v.acks
  pub starts : Below u.n v.starts

pub record StoreIn (u : Setup) (t : Store) : Type 0 where
  pub nonce : t.nonce < 18446744073709551616
  pub reports-count : length t.reports ≡ u.n
  pub reports : Every ReportedFits t.reports
  pub responses-count : length t.responses ≡ u.n
  pub responses : Every ResponseFits t.responses

pub record ClockIn (u : Setup) (c : Clock) : Type 0 where
  pub waiting : c.waiting < 4294967296
  pub stable : c.stable ≤ u.timeout
  pub attempts : c.attempts ≤ 10

pub record In (u : Setup) (m : State) : Type 0 where
  pub place : PlaceIn m.place
  pub book : BookIn m.book
  pub votes : VotesIn u m.votes
  pub store : StoreIn u m.store
  pub clock : ClockIn u m.clock

pub ranges-of : (u : Setup) (m : State) → In u m → Ranges u m
ranges-of u m i =
    record {
      view-fits = i.place.view;
      last-normal = i.place.last;
      nonce-fits = i.store.nonce;
      entries_fit = i.book.log;
      totals-small = i.book.totals;
      acks-count = i.votes.acks.count;
      acks-below = i.votes.acks.below;
      starts-below = i.votes.starts;
      reports-count = i.store.reports-count;
      reports-fit = i.store.reports;
      responses-count = i.store.responses-count;
      responses-fit = i.store.responses;
      waiting-fits = i.clock.waiting;
      stable-le = i.clock.stable;
      attempts-le = i.clock.attempts;
    }

-- ---- the book

outcome-small : (ts : List ℕ) (e : Entry) → All Small ts → (outcome ts e).total ≤ 1000000000
unfolding outcome
outcome-small ts e p =
    split (λ (o : Outcome). o.total ≤ 1000000000) _ _ _
    (λ _. fee-small _ e.cents (operation_of e.operation) (all-get Small ts e.member 0 p (omega arith))) (λ _. omega arith)

pub after_small : (ts : List ℕ) (e : Entry) → All Small ts → All Small (totals_after ts e)
unfolding totals_after
after_small ts e p = split (All Small) _ _ _ (λ _. all_set Small ts e.member _ p (outcome-small ts e p)) (λ _. p)

pub through-small : (ts : List ℕ) (es : List Entry) → All Small ts → All Small (through ts es)
unfolding through
through-small ts [] p = p
through-small ts (e ∷ es) p = through-small (totals_after ts e) es (after_small ts e p)

pub append-in : (b : Book) (e : Entry) → EntryFits e → BookIn b → BookIn (append b e)
unfolding append
append-in b e f i = record { log = all_append EntryFits b.log (e ∷ []) i.log (f, tt); totals = i.totals }

pub append_all-in : (b : Book) (es : List Entry) → All EntryFits es → BookIn b → BookIn (append_all b es)
unfolding append_all
append_all-in b [] f i = i
append_all-in b (e ∷ es) f i = append_all-in (append b e) es f.1 (append-in b e f.0 i)

pub commit-in : (b : Book) (k : ℕ) → BookIn b → BookIn (commit_up_to b k)
unfolding commit_up_to
commit-in b k i = record { log = rw commit_all-log i.log; totals = rw commit_all-totals (through-small b.totals (due_entries b k) i.totals) }

pub install-in : (b : Book) (log : List Entry) → All EntryFits log → BookIn b → BookIn (install b log)
unfolding install
install-in b log f i = record { log = f; totals = i.totals }

-- ---- sets of replicas

none_below : (n : ℕ) → Below n 0
none_below n = pow_pos n

module _ (u : Setup) where
  pub no-acks : AcksIn u (no_acks u)
  unfolding no_acks
  no-acks = record { count = length-replicate u.room 0; below = all_same (Below u.n) u.room 0 (none_below u.n) }

  own_below : u.id < u.n → Below u.n (own_vote u)
  unfolding own_vote
  own_below own = with-lt u.n 0 u.id (none_below u.n) own

  pub set-acks : (a : List ℕ) (i s : ℕ) → Below u.n s → AcksIn u a → AcksIn u (set a i s)
  set-acks a i s h p = record { count = length-set a i s ∙ p.count; below = all_set (Below u.n) a i s p.below h }

  pub blanked-acks : (a : List ℕ) (o : ℕ) → o ≤ u.room → AcksIn u a → AcksIn u (blanked o a)
  unfolding blanked
  blanked-acks a o h p =
      record {
        count = simp (length-append, length-replicate, length-drop) (omega (arith, p.count));
        below =
            all_append (Below u.n) (replicate o 0) (drop o a)
            (all_same (Below u.n) o 0 (none_below u.n)) (all_drop (Below u.n) o a p.below);
      }

  pub acks-from : (c k : ℕ) → u.id < u.n → c ≤ k → k ≤ u.room → AcksIn u (acks_from u c k)
  unfolding acks_from
  acks-from c k own h g =
      record {
        count = simp (length-append, length-replicate) (omega arith);
        below =
            all_append (Below u.n) (replicate c 0 ++ replicate (k - c) (own_vote u)) (replicate (u.room - k) 0)
            (all_append (Below u.n) (replicate c 0) (replicate (k - c) (own_vote u))
            (all_same (Below u.n) c 0 (none_below u.n)) (all_same (Below u.n) (k - c) (own_vote u) (own_below own)))
            (all_same (Below u.n) (u.room - k) 0 (none_below u.n));
      }

  -- ---- the clock

  stable-in : (c : Clock) → ClockIn u c → ClockIn u (stable_tick u.timeout c)
  unfolding stable_tick
  stable-in c i =
      record {
        waiting = i.waiting;
        stable = omega arith;
        attempts = split (λ (a : ℕ). a ≤ 10) _ _ _ (λ _. omega arith) (λ _. i.attempts);
      }

  wait-in : (c : Clock) → ClockIn u c → ClockIn u (wait_tick u.timeout c).clock
  unfolding wait_tick waited_of
  wait-in c i = record { waiting = omega arith; stable = i.stable; attempts = i.attempts }

  pub tick-in : (d : Duty) (c : Clock) → ClockIn u c → ClockIn u (tick_of u.timeout d c).clock
  unfolding tick_of
  tick-in Lead c i = stable-in c i
  tick-in Follow c i =
      split (λ (t : Ticked). ClockIn u t.clock) _ _ _
      (λ _. stable-in (clock false 0 c.stable c.attempts) (record { waiting = omega arith; stable = i.stable; attempts = i.attempts }))
      (λ _. wait-in (clock false c.waiting 0 c.attempts) (record { waiting = i.waiting; stable = omega arith; attempts = i.attempts }))
  tick-in Change c i = wait-in c i

  start-in : (again : Bool) (c : Clock) → ClockIn u c → ClockIn u (start_of again c).clock
  unfolding start_of
  start-in again c i =
      record {
        waiting = omega arith;
        stable = i.stable;
        attempts = split (λ (a : ℕ). a ≤ 10) _ _ _ (λ _. omega arith) (λ _. i.attempts);
      }

  -- ---- the state, one part anew

  pub clock-in : (m : State) (c : Clock) → (ClockIn u m.clock → ClockIn u c) → In u m → In u (set_clock m c)
  unfolding set_clock
  clock-in m c f i = record { place = i.place; book = i.book; votes = i.votes; store = i.store; clock = f i.clock }

  pub book-in : (m : State) (b : Book) → (BookIn m.book → BookIn b) → In u m → In u (set_book m b)
  unfolding set_book
  book-in m b f i = record { place = i.place; book = f i.book; votes = i.votes; store = i.store; clock = i.clock }

  votes-in : (m : State) (v : Votes) → (VotesIn u m.votes → VotesIn u v) → In u m → In u (set_votes m v)
  unfolding set_votes
  votes-in m v f i = record { place = i.place; book = i.book; votes = f i.votes; store = i.store; clock = i.clock }

  store_in : (m : State) (t : Store) → (StoreIn u m.store → StoreIn u t) → In u m → In u (set_store m t)
  unfolding set_store
  store_in m t f i = record { place = i.place; book = i.book; votes = i.votes; store = f i.store; clock = i.clock }

  pub status-in : (m : State) (s : Status) → In u m → In u (set_status m s)
  unfolding set_status set_place
  status-in m s i =
      record {
        place = record { view = i.place.view; last = i.place.last };
        book = i.book;
        votes = i.votes;
        store = i.store;
        clock = i.clock;
      }

  pub acks-in : (m : State) (a : List ℕ) → (AcksIn u m.votes.acks → AcksIn u a) → In u m → In u (set_acks m a)
  unfolding set_acks
  acks-in m a f = votes-in m _ (λ v. record { acks = f v.acks; starts = v.starts })

  pub heard-in : (m : State) → In u m → In u (heard_from_primary m)
  unfolding heard_from_primary
  heard-in m = clock-in m _ (λ c. record { waiting = c.waiting; stable = c.stable; attempts = c.attempts })

  pub committed-in : (m : State) (k : ℕ) → In u m → In u (committed m k)
  unfolding committed
  committed-in m k = book-in m _ (commit-in m.book k)

  pub accepted-in : (m : State) (e : Entry) → u.id < u.n → EntryFits e → In u m → In u (accepted u m e)
  unfolding accepted set_book
  accepted-in m e own f i =
      acks-in (set_book m (append m.book e)) _ (set-acks m.votes.acks (op_of m) (own_vote u) (own_below own))
      (book-in m _ (append-in m.book e f) i)

  pub acked-in : (m : State) (o r : ℕ) → r < u.n → In u m → In u (acked m o r)
  unfolding acked ack_row
  acked-in m o r h =
      acks-in m _
      (λ p. set-acks m.votes.acks (o - 1) _
      (with-lt u.n _ r (all-get (Below u.n) m.votes.acks (o - 1) 0 p.below (none_below u.n)) h) p)

  pub sent-in : (m : State) → In u m → In u (mark_sent m)
  unfolding mark_sent
  sent-in m = votes-in m _ (λ v. record { acks = v.acks; starts = v.starts })

  pub vote-in : (m : State) (r : ℕ) → r < u.n → In u m → In u (voted_for u m r)
  unfolding voted_for
  vote-in m r h = votes-in m _ (λ v. record { acks = v.acks; starts = another-lt u.n _ u.id r v.starts h })

  pub recorded-in : (m : State) (r : ℕ) (d : Reported) → ReportedFits d → In u m → In u (report_noted m r d)
  unfolding report_noted
  recorded-in m r d f =
      store_in m _
      (λ t. record {
        nonce = t.nonce;
        reports-count = length-set m.store.reports r (some d) ∙ t.reports-count;
        reports = every_set ReportedFits m.store.reports r d t.reports f;
        responses-count = t.responses-count;
        responses = t.responses;
      })

  pub noted_in : (m : State) (r : ℕ) (d : Response) → ResponseFits d → In u m → In u (noted m r d)
  unfolding noted
  noted_in m r d f =
      store_in m _
      (λ t. record {
        nonce = t.nonce;
        reports-count = t.reports-count;
        reports = t.reports;
        responses-count = length-set m.store.responses r (some d) ∙ t.responses-count;
        responses = every_set ResponseFits m.store.responses r d t.responses f;
      })

  pub forgotten-in : (m : State) → In u m → In u (forgotten u m)
  unfolding forgotten no_responses
  forgotten-in m =
      store_in m _
      (λ t. record {
        nonce = t.nonce;
        reports-count = t.reports-count;
        reports = t.reports;
        responses-count = length-replicate u.n none;
        responses = every-none ResponseFits u.n;
      })

  pub own-fits : (m : State) → In u m → ReportedFits (our_report m)
  unfolding our_report held_by
  own-fits m i = record { last-normal = omega (arith, i.place.view, i.place.last); entries_fit = i.book.log }

  -- ---- another view

  cleared-votes : (m : State) → In u m → VotesIn u (cleared_votes m)
  unfolding cleared_votes
  cleared-votes m i = record { acks = i.votes.acks; starts = none_below u.n }

  cleared-store : (m : State) → In u m → StoreIn u (cleared_store u m)
  unfolding cleared_store no_reports
  cleared-store m i =
      record {
        nonce = i.store.nonce;
        reports-count = length-replicate u.n none;
        reports = every-none ReportedFits u.n;
        responses-count = i.store.responses-count;
        responses = i.store.responses;
      }

  pub entered-in : (m : State) (v : ℕ) (b : Book) (a : List ℕ) → v < 4294967296 → BookIn b → AcksIn u a → In u m → In u (enter_normal u m v b a)
  unfolding enter_normal
  entered-in m v b a fits book acks i =
      record {
        place = record { view = fits; last = le_refl v };
        book = book;
        votes = record { acks = acks; starts = none_below u.n };
        store = cleared-store m i;
        clock = record { waiting = omega arith; stable = omega arith; attempts = i.clock.attempts };
      }

  pub catching-in : (m : State) (v : ℕ) → v < 4294967296 → m.place.view ≤ v → In u m → In u (catching_up_with u m v)
  unfolding catching_up_with
  catching-in m v fits up i =
      record {
        place = record { view = fits; last = omega (arith, i.place.last) };
        book = i.book;
        votes = cleared-votes m i;
        store = cleared-store m i;
        clock = record { waiting = omega arith; stable = i.clock.stable; attempts = i.clock.attempts };
      }

  pub changing-in : (m : State) (v : ℕ) → v < 4294967296 → m.place.view ≤ v → In u m → In u (changing_to u m v)
  unfolding changing_to
  changing-in m v fits up i =
      record {
        place = record { view = fits; last = omega (arith, i.place.last) };
        book = i.book;
        votes = cleared-votes m i;
        store = cleared-store m i;
        clock = start-in (is_changing m.place.status) m.clock i.clock;
      }

  -- ---- a new replica

  pub new_in : (t : Status) (v x : ℕ) → v < 4294967296 → x < 18446744073709551616 → In u (new_at u t v x)
  unfolding new_at empty_book no_reports no_responses
  new_in t v x fits once =
      record {
        place = record { view = fits; last = le_refl v };
        book = record { log = tt; totals = all_same Small u.members 0 (omega arith) };
        votes = record { acks = no-acks; starts = none_below u.n };
        store =
            record {
              nonce = once;
              reports-count = length-replicate u.n none;
              reports = every-none ReportedFits u.n;
              responses-count = length-replicate u.n none;
              responses = every-none ResponseFits u.n;
            };
        clock = record { waiting = omega arith; stable = omega arith; attempts = omega arith };
      }
