-- Demand 3: any calls, refused ones included, from a creation that was not refused. Assumes nothing.
use Prim.Native.Nat.{ℕ, zero, suc, ◌≤◌, ◌<◌}
use native.Mathlib.Nat.{le_refl}
use native.Mathlib.Omega.{arith}
use mathlib.Core.Path.{◌≡◌, refl, ap, sym, ◌∙◌}
use mathlib.Core.Bool.{true, not}
use mathlib.Core.List.{List, [], ◌∷◌}
use mathlib.Core.Option.{Option, none, some}
use lib.ListN.{length, get_or, length-replicate}
use borrow.Author.Tests.{leb-false, eq-eqb, le-leb, not-true}
use Rattle.numbers.specs.Words.{◌and◌, All}
use Rattle.numbers.proofs.WordLaws.{split, and_left, and_right, and-true}
use Rattle.entries.specs.Rising.{breaks_at, follows, rising}
use Rattle.entries.specs.declared.Entry.{Entry}
use Rattle.config.specs.Setup.{setup_ok}
use Rattle.config.specs.declared.Setup.{Setup}
use Rattle.config.proofs.SetupLaws.{sized}
use Rattle.fees.specs.Takings.{most_takings}
use Rattle.frames.specs.declared.Status.{Status}
use Rattle.model.specs.State.{Held, Reported, Response, State, Sent, Reply, Answer, op_of, after}
use Rattle.model.specs.State.Answer.{refused, done}
use Rattle.model.specs.Book.{through, results_of, takings_through, rebuilt, table_of, empty_book}
use Rattle.model.specs.ViewChange.{no_reports}
use Rattle.model.specs.Recovery.{no_responses}
use Rattle.model.specs.Steps.{fitted, held_ok, held_ok_in, reported_ok, responses_ok, numbers_ok, new_at, create, recover}
use Rattle.safety.specs.Demand.{answer, Call, run, Created, At, Every, StoredSound, SoundReport, SoundResponse, zeros, Safe, Later, Demand3}
use Rattle.safety.specs.Demand.Created.{new, back}
use Rattle.safety.specs.Money.{sum}
use Rattle.safety.specs.Ranges.{Small}
use Rattle.model.proofs.BookLaws.{through-length}
use Rattle.safety.proofs.Money.{member-total, all-totals, sum_zeros}
use Rattle.safety.proofs.Changes.{all_same, through-small}
use Rattle.safety.proofs.Takings.{sum-most, takings-sum}
use Rattle.model.proofs.TableLaws.{table-rises, table-length}
use Rattle.model.proofs.TableOf.{table-there}
use Rattle.safety.proofs.Tables.{remembered}
use Rattle.safety.proofs.Books.{BookInv, Grown, results-counted}
use Rattle.safety.proofs.Handlers.{Inv, Next, still, next-next, every-none, after_next}
use Rattle.safety.proofs.Messages.{call-good}
use Rattle.frames.specs.declared.Refusal.{Refusal}
use Rattle.frames.specs.declared.Refusal.TheVariants.{OutOfRange, NoRoomForMessages, NoRoomForReplies}

-- ---- a rising log has each client's requests once, in rising order

rises-at : (a b : Entry) → not (breaks_at a b) ≡ true → a.client ≡ b.client → a.request < b.request
unfolding breaks_at ◌and◌
rises-at a b p e = leb-false b.request a.request (rw (eq-eqb a.client b.client e) at (not-true (breaks_at a b) p))

follows-at : (a : Entry) (l : List Entry) (d : Entry) (j : ℕ) → follows a l ≡ true → j < length l → not (breaks_at a (get_or l j d)) ≡ true
unfolding follows
follows-at a [] d j p h = absurd (omega arith)
follows-at a (x ∷ l) d zero p h = and_left _ _ p
follows-at a (x ∷ l) d (suc j) p h = follows-at a l d j (and_right _ _ p) (omega arith)

rising-at : (l : List Entry) (d : Entry) (i j : ℕ) → rising l ≡ true → i < j → j < length l
    → (get_or l i d).client ≡ (get_or l j d).client → (get_or l i d).request < (get_or l j d).request
unfolding rising
rising-at [] d i j p h k e = absurd (omega arith)
rising-at (x ∷ l) d i zero p h k e = absurd (omega arith)
rising-at (x ∷ l) d zero (suc j) p h k e = rises-at _ _ (follows-at x l d j (and_left _ _ p) (omega arith)) e
rising-at (x ∷ l) d (suc i) (suc j) p h k e = rising-at l d i j (and_right _ _ p) (omega arith) (omega arith) e

-- ---- refusal 1 on a state's numbers

module _ (u : Setup) where
  held-ok : (h : Held) → StoredSound u h → held_ok u.room h ≡ true
  unfolding held_ok
  held-ok h p = and-true _ _ (le-leb _ _ p.commit-le) (le-leb _ _ p.fits)

  reports-ok : (xs : List (Option Reported)) → Every (SoundReport u) xs → reported_ok u.room xs ≡ true
  unfolding reported_ok
  reports-ok [] p = refl
  reports-ok (none ∷ xs) p = reports-ok xs p.1
  reports-ok (some d ∷ xs) p = and-true _ _ (held-ok d.held p.0) (reports-ok xs p.1)

  held-in-ok : (h : Option Held) → At (StoredSound u) h → held_ok_in u.room h ≡ true
  unfolding held_ok_in
  held-in-ok none p = refl
  held-in-ok (some h) p = held-ok h p

  responses-ok : (xs : List (Option Response)) → Every (SoundResponse u) xs → responses_ok u.room xs ≡ true
  unfolding responses_ok
  responses-ok [] p = refl
  responses-ok (none ∷ xs) p = responses-ok xs p.1
  responses-ok (some d ∷ xs) p = and-true _ _ (held-in-ok d.held p.0) (responses-ok xs p.1)

  -- the sum that is kept is that of the totals, and inside its range
  module _ (m : State) (s : setup_ok u ≡ true) (i : Inv u m) where
    few : length (zeros u) ≤ 4096
    few = omega (arith, length-replicate {A = ℕ} u.members 0, (sized u s).members-high)

    none-large : All Small (zeros u)
    none-large = all_same Small u.members 0 (omega arith)

    kept-sum : m.book.takings ≡ sum m.book.totals
    kept-sum =
        i.book.takings-are ∙ ap (λ (t : ℕ). takings_through t (zeros u) m.book.applied) (sym (sum_zeros u.members))
        ∙ takings-sum (zeros u) m.book.applied none-large few ∙ ap sum (sym i.book.totals-are)

    takings-most : m.book.takings ≤ most_takings
    takings-most =
        let ts = through (zeros u) m.book.applied in
        let e : m.book.takings ≡ sum ts = kept-sum ∙ ap sum i.book.totals-are in
        let l : length ts ≤ 4096 = omega (arith, through-length (zeros u) m.book.applied, few) in
        omega (arith, e, sum-most ts (through-small (zeros u) m.book.applied none-large), l)

  state-ok : (m : State) → setup_ok u ≡ true → Inv u m → numbers_ok u m ≡ true
  unfolding numbers_ok op_of
  state-ok m s i =
      and-true _ _ s
      (and-true _ _ (le-leb _ _ i.book.commit-le)
      (and-true _ _ (le-leb _ _ i.book.log-fits)
      (and-true _ _ (le-leb _ _ (takings-most m s i))
      (and-true _ _ (reports-ok m.store.reports i.store.reports) (responses-ok m.store.responses i.store.responses)))))

  -- ---- creation

  new-inv : (t : Status) (v x : ℕ) → Inv u (new_at u t v x)
  unfolding new_at empty_book rising through takings_through results_of rebuilt table_of no_reports no_responses
  new-inv t v x =
      record {
        book =
            record {
              applied-is = refl;
              commit-le = omega arith;
              log-fits = omega arith;
              log-rises = refl;
              table_is = refl;
              totals-are = refl;
              takings-are = refl;
              results-are = refl;
            };
        store = record { reports = every-none (SoundReport u) u.n; responses = every-none (SoundResponse u) u.n };
      }

  -- what holds of every new replica holds of what a creation that was not refused gives
  module _ (P : State → Type 0) (new-has : setup_ok u ≡ true → (t : Status) (v x : ℕ) → P (new_at u t v x)) where
    not_done : (k : Refusal) (m : State) (out : List Sent) (rs : List Reply) → refused k ≡ done m out rs → P m
    not_done k m out rs e = let z : ◌≡◌ {A = ℕ} 0 1 = cc in absurd (omega arith)

    began : (t : Status) (v x : ℕ) (sent out : List Sent) (rs : List Reply) (m : State) → setup_ok u ≡ true
        → done (new_at u t v x) sent [] ≡ done m out rs → P m
    began t v x sent out rs m s e = let same : m ≡ new_at u t v x = cc in rw same (new-has s t v x)

    fitted-began : (t : Status) (v x a : ℕ) (sent out : List Sent) (rs : List Reply) (m : State) → setup_ok u ≡ true
        → fitted a 0 (done (new_at u t v x) sent []) ≡ done m out rs → P m
    unfolding fitted
    fitted-began t v x a sent out rs m s =
        split (λ (y : Answer). y ≡ done m out rs → P m) _ _ _ (λ _. not_done NoRoomForMessages m out rs) λ _.
        split (λ (y : Answer). y ≡ done m out rs → P m) _ _ _ (λ _. not_done NoRoomForReplies m out rs) (λ _. began t v x sent out rs m s)

    pub created : (m : State) → Created u m → P m
    unfolding create recover
    created m (new out rs e) =
        split (λ (y : Answer). y ≡ done m out rs → P m) _ _ _ (λ s. began _ _ _ _ out rs m s) (λ _. not_done OutOfRange m out rs) e
    created m (back v x a out rs e) =
        split (λ (y : Answer). y ≡ done m out rs → P m) _ _ _ (λ s. fitted-began _ v x a _ out rs m s) (λ _. not_done OutOfRange m out rs) e

  -- ---- any calls

  run-next : (m : State) (cs : List Call) → Next u m (run u m cs)
  unfolding run
  run-next m [] = still u (le_refl _) refl refl
  run-next m (c ∷ cs) = next-next u (after_next u (call-good u m c)) (run-next (after m (answer u m c)) cs)

  reached : (m : State) → Inv u m → (cs : List Call) → Inv u (run u m cs)
  reached m i cs = record { book = ((run-next m cs).book-ok i).inv; store = (run-next m cs).store_ok i }

  safe-of : (m : State) → setup_ok u ≡ true → Inv u m → Safe u m
  safe-of m s i =
      let b : BookInv u m.book = i.book in
      let counted : length m.book.results ≡ m.book.commit = results-counted u m.book b in
      record {
        applied-is = b.applied-is;
        commit-le = b.commit-le;
        log-fits = b.log-fits;
        once = λ d k j. rising-at m.book.log d k j b.log-rises;
        results-are = b.results-are;
        results-count = counted;
        member-totals = λ k. rw b.totals-are (member-total u.members m.book.applied k);
        sum-of-totals = rw b.totals-are (all-totals u.members m.book.applied);
        takings-are = kept-sum m s i;
        totals-count =
            ap (λ l. length l) b.totals-are ∙ through-length (zeros u) m.book.applied ∙ length-replicate u.members 0;
        table-rises = rw b.table_is (table-rises m.book.log m.book.results m.book.commit);
        table-has = λ d k h. rw b.table_is (table-there m.book.log m.book.results m.book.commit d k h);
        table_is = b.table_is;
        remembers = remembered m.book (omega arith) b.table_is;
        table_fits = rw b.table_is (table-length m.book.log m.book.results m.book.commit);
        reports-sound = i.store.reports;
        responses-sound = i.store.responses;
        never-1 = state-ok m s i;
      }

  later_of : (m : State) → Inv u m → (cs : List Call) → Later m (run u m cs)
  later_of m i cs =
      let n : Next u m (run u m cs) = run-next m cs in
      let g : Grown u m.book (run u m cs).book = n.book-ok i in
      record { view-up = n.view-up; commit-up = g.commit-up; more = g.more; applied-grows = g.grows }

-- Demand 3. After a creation that was not refused and any calls cs the state is safe; after any further calls ds it is a later one.
pub demand3 : (u : Setup) (m : State) → Created u m → (cs ds : List Call) → Demand3 u (run u m cs) (run u (run u m cs) ds)
demand3 u m from cs ds =
    let b : (setup_ok u ≡ true) × Inv u m = created u (λ n. (setup_ok u ≡ true) × Inv u n) (λ s t v x. (s, new-inv u t v x)) m from in
    let i : Inv u (run u m cs) = reached u m b.1 cs in
    record { safe = safe-of u (run u m cs) b.0 i; later = later_of u (run u m cs) i ds }
