-- The client table of a log, of what its entries gave, and of a commit number.
--     same_rows                                            two tables in rising order are the same where the same is found of each client
--     rebuilt-same, rebuilt-none, rebuilt-last             what is found after entries were put (seen_as, gave)
--     rebuilt-there, rebuilt-latest                        each client of the log has a row, of its latest number
--     table_none, table-last, table-there, table-latest    likewise of the table of a log
--     table-append, table-commit                           an entry more; and an entry's outcome, the log rising
--     Tabled                                               a book whose table is that of its log, its results and its commit number
--     table-appends, table-commits, table-commit-to        append and commit keep that
-- Assumes nothing.
use Prim.Native.Nat.{ℕ, zero, suc, ◌+◌, ◌-◌, ◌≤◌, ◌<◌}
use native.Mathlib.Omega.{arith}
use mathlib.Core.Path.{◌≡◌, refl, sym, ap, ◌∙◌}
use mathlib.Core.Bool.{true, false, false≢true}
use mathlib.Core.List.{List, [], ◌∷◌, ◌++◌, append-nil}
use mathlib.Core.Logic.{⊎_elim}
use mathlib.Core.Option.{Option, none, some}
use lib.Dec.{ltb}
use lib.ListN.{length, get_or, take, drop, length-append, length-take, length-drop, take-append-drop}
use lib.Seq.{append_snoc, take_all, drop-drop, get_or-take, length-take-le}
use borrow.Author.Tests.{eq-eqb, ne_eqb, not-true, ltb-true, ltb-false}
use Rattle.numbers.specs.Words.{when◌then◌else◌}
use Rattle.numbers.proofs.WordLaws.{split, if-true, if-false, and_left, and_right, and-true, and-false}
use Rattle.numbers.proofs.NumberLaws.{eq-or-not, le-or-lt}
use Rattle.entries.specs.Rising.{breaks_at, follows, rising}
use Rattle.entries.specs.declared.Entry.{Entry}
use Rattle.fees.specs.declared.Outcome.{Outcome}
use Rattle.model.specs.State.{ClientEntry, Book}
use Rattle.model.specs.Book.{outcome, Seen, find, put, entry_row, append, append_all, keep, commit_one, commit_all, due_entries, commit_up_to, rebuilt, table_of}
use Rattle.model.specs.Book.{Above, Rises}
use Rattle.model.proofs.TableLaws.{above_more, absent, put-rises, keep-rises, rebuilt-rises}
use Rattle.model.proofs.LogLift.{rising-front}
use Rattle.model.proofs.LatestLaws.{find-put, find-other, Latest, latest-none, latest-more, risen}

-- ---- what is found says all of a table in rising order

-- what is found of a client that has a row
abbrev pub seen_as : (request : ℕ) → Option Outcome → Seen
seen_as r k = record { there = true; request = r; kept = k }

head-found : (r : ClientEntry) (rs : List ClientEntry) → find (r ∷ rs) r.client ≡ seen_as r.request r.kept
unfolding find
head-found r rs = if-true _ _ _ (eq-eqb r.client r.client refl)

tail-found : (r : ClientEntry) (rs : List ClientEntry) (c : ℕ) → (r.client ≡ c → ⊥) → find (r ∷ rs) c ≡ find rs c
unfolding find
tail-found r rs c n = if-false _ _ _ (ne_eqb r.client c n)

not_found : (t : List ClientEntry) (r : ClientEntry) (rs : List ClientEntry) → Above r.client t
    → find t r.client ≡ find (r ∷ rs) r.client → ⊥
unfolding find
not_found t r rs a e = false≢true (ap (λ (x : Seen). x.there) (sym (absent r.client t a) ∙ e ∙ head-found r rs))

first-same : (r q : ClientEntry) (rs qs : List ClientEntry) → r.client ≡ q.client → find (r ∷ rs) r.client ≡ find (q ∷ qs) r.client → r ≡ q
first-same r q rs qs h e =
    let s : seen_as r.request r.kept ≡ seen_as q.request q.kept =
    sym (head-found r rs) ∙ e ∙ ap (find (q ∷ qs)) h ∙ head-found q qs in
    λ i. record { client = h i; request = (s i).request; kept = (s i).kept }

rest-same : (r q : ClientEntry) (rs qs : List ClientEntry) → r.client ≡ q.client → Above r.client rs → Above q.client qs
    → ((c : ℕ) → find (r ∷ rs) c ≡ find (q ∷ qs) c) → (c : ℕ) → find rs c ≡ find qs c
rest-same r q rs qs h a b f c =
    ⊎_elim
    (λ e. absent c rs (rw (← e) a) ∙ sym (absent c qs (rw (← e, h) b)))
    (λ n. sym (tail-found r rs c n) ∙ f c ∙ tail-found q qs c (λ e. n (h ∙ e)))
    (eq-or-not r.client c)

not_lower : (r q : ClientEntry) (rs qs : List ClientEntry) → Above q.client qs → find (r ∷ rs) r.client ≡ find (q ∷ qs) r.client
    → q.client ≤ r.client
not_lower r q rs qs a e =
    ⊎_elim (λ le. le)
    (λ lt. absurd (not_found (q ∷ qs) r rs (lt, above_more _ _ qs (omega arith) a) (sym e)))
    (le-or-lt q.client r.client)

pub same_rows : (t t' : List ClientEntry) → Rises t → Rises t' → ((c : ℕ) → find t c ≡ find t' c) → t ≡ t'
same_rows [] [] s s' f = refl
same_rows [] (q ∷ qs) s s' f = absurd (not_found [] q qs tt (f q.client))
same_rows (r ∷ rs) [] s s' f = absurd (not_found [] r rs tt (sym (f r.client)))
same_rows (r ∷ rs) (q ∷ qs) s s' f =
    let a : q.client ≤ r.client = not_lower r q rs qs s'.0 (f r.client) in
    let b : r.client ≤ q.client = not_lower q r qs rs s.0 (sym (f q.client)) in
    let h : r.client ≡ q.client = omega arith in
    let p : r ≡ q = first-same r q rs qs h (f r.client) in
    let g : rs ≡ qs = same_rows rs qs s.1 s'.1 (rest-same r q rs qs h s.0 s'.0 f) in
    λ i. p i ∷ g i

-- ---- what is found after entries were put

module _ (c : ℕ) where
  put_same : (t t' : List ClientEntry) (r : ClientEntry) → find t c ≡ find t' c → find (put t r) c ≡ find (put t' r) c
  put_same t t' r p =
      ⊎_elim
      (λ e. ap (find (put t r)) (sym e) ∙ find-put t r ∙ sym (find-put t' r) ∙ ap (find (put t' r)) e)
      (λ n. find-other t r c n ∙ p ∙ sym (find-other t' r c n))
      (eq-or-not r.client c)

  pub rebuilt-same : (t t' : List ClientEntry) (es : List Entry) (os : List Outcome) → find t c ≡ find t' c
      → find (rebuilt t es os) c ≡ find (rebuilt t' es os) c
  unfolding rebuilt
  rebuilt-same t t' [] os p = p
  rebuilt-same t t' (e ∷ es) [] p = rebuilt-same (put t (entry_row e none)) (put t' (entry_row e none)) es [] (put_same t t' _ p)
  rebuilt-same t t' (e ∷ es) (o ∷ os) p = rebuilt-same (put t (entry_row e (some o))) (put t' (entry_row e (some o))) es os (put_same t t' _ p)

  -- no entry is the client's
  pub rebuilt-none : (t : List ClientEntry) (es : List Entry) (os : List Outcome) (d : Entry)
      → ((j : ℕ) → j < length es → (get_or es j d).client ≡ c → ⊥) → find (rebuilt t es os) c ≡ find t c
  unfolding rebuilt entry_row
  rebuilt-none t [] os d n = refl
  rebuilt-none t (e ∷ es) [] d n = rebuilt-none (put t (entry_row e none)) es [] d (λ j h. n (suc j) (omega arith)) ∙ find-other t _ c (n 0 (omega arith))
  rebuilt-none t (e ∷ es) (o ∷ os) d n = rebuilt-none (put t (entry_row e (some o))) es os d (λ j h. n (suc j) (omega arith)) ∙ find-other t _ c (n 0 (omega arith))

-- what the entry at place i gave, as far as there are outcomes
unfoldable pub gave : List Outcome → (i : ℕ) → Option Outcome
gave [] i = none
gave (o ∷ os) zero = some o
gave (o ∷ os) (suc i) = gave os i

gave-inside : (os : List Outcome) (i : ℕ) (o : Outcome) → i < length os → gave os i ≡ some (get_or os i o)
unfolding gave
gave-inside [] i o h = absurd (omega arith)
gave-inside (p ∷ os) zero o h = refl
gave-inside (p ∷ os) (suc i) o h = gave-inside os i o (omega arith)

gave-past : (os : List Outcome) (i : ℕ) → length os ≤ i → gave os i ≡ none
unfolding gave
gave-past [] i h = refl
gave-past (p ∷ os) zero h = absurd (omega arith)
gave-past (p ∷ os) (suc i) h = gave-past os i (omega arith)

-- the entry at place i is its client's last
pub rebuilt-last : (t : List ClientEntry) (es : List Entry) (os : List Outcome) (d : Entry) (i : ℕ) → i < length es
    → ((j : ℕ) → i < j → j < length es → (get_or es j d).client ≡ (get_or es i d).client → ⊥)
    → find (rebuilt t es os) (get_or es i d).client ≡ seen_as (get_or es i d).request (gave os i)
unfolding rebuilt entry_row gave
rebuilt-last t [] os d i h n = absurd (omega arith)
rebuilt-last t (e ∷ es) [] d zero h n =
    rebuilt-none e.client _ es [] d (λ j l. n (suc j) (omega arith) (omega arith)) ∙ find-put t (entry_row e none)
rebuilt-last t (e ∷ es) (o ∷ os) d zero h n =
    rebuilt-none e.client _ es os d (λ j l. n (suc j) (omega arith) (omega arith)) ∙ find-put t (entry_row e (some o))
rebuilt-last t (e ∷ es) [] d (suc i) h n = rebuilt-last (put t (entry_row e none)) es [] d i (omega arith) (λ j l k. n (suc j) (omega arith) (omega arith))
rebuilt-last t (e ∷ es) (o ∷ os) d (suc i) h n = rebuilt-last (put t (entry_row e (some o))) es os d i (omega arith) (λ j l k. n (suc j) (omega arith) (omega arith))

-- ---- each client of the log has a row, of its latest number

put-stays : (t : List ClientEntry) (r : ClientEntry) (c : ℕ) → (find t c).there ≡ true → (find (put t r) c).there ≡ true
put-stays t r c p =
    ⊎_elim
    (λ e. ap (λ (x : Seen). x.there) (ap (find (put t r)) (sym e) ∙ find-put t r))
    (λ n. ap (λ (x : Seen). x.there) (find-other t r c n) ∙ p)
    (eq-or-not r.client c)

rebuilt-stays : (t : List ClientEntry) (es : List Entry) (os : List Outcome) (c : ℕ) → (find t c).there ≡ true → (find (rebuilt t es os) c).there ≡ true
unfolding rebuilt
rebuilt-stays t [] os c p = p
rebuilt-stays t (e ∷ es) [] c p = rebuilt-stays (put t (entry_row e none)) es [] c (put-stays t _ c p)
rebuilt-stays t (e ∷ es) (o ∷ os) c p = rebuilt-stays (put t (entry_row e (some o))) es os c (put-stays t _ c p)

put-there : (t : List ClientEntry) (e : Entry) (k : Option Outcome) → (find (put t (entry_row e k)) e.client).there ≡ true
unfolding entry_row
put-there t e k = ap (λ (x : Seen). x.there) (find-put t (entry_row e k))

pub rebuilt-there : (t : List ClientEntry) (es : List Entry) (os : List Outcome) (d : Entry) (i : ℕ) → i < length es
    → (find (rebuilt t es os) (get_or es i d).client).there ≡ true
unfolding rebuilt
rebuilt-there t [] os d i h = absurd (omega arith)
rebuilt-there t (e ∷ es) [] d zero h = rebuilt-stays _ es [] _ (put-there t e none)
rebuilt-there t (e ∷ es) (o ∷ os) d zero h = rebuilt-stays _ es os _ (put-there t e (some o))
rebuilt-there t (e ∷ es) [] d (suc i) h = rebuilt-there (put t (entry_row e none)) es [] d i (omega arith)
rebuilt-there t (e ∷ es) (o ∷ os) d (suc i) h = rebuilt-there (put t (entry_row e (some o))) es os d i (omega arith)

-- one entry more, and then the others
latest-step : (t : List ClientEntry) (es : List Entry) (f : Entry) (fs : List Entry) (k : Option Outcome) → Latest t es → rising (es ++ f ∷ fs) ≡ true
    → Latest (put t (entry_row f k)) (es ++ (f ∷ [])) × (rising ((es ++ (f ∷ [])) ++ fs) ≡ true)
latest-step t es f fs k l h =
    let g : rising ((es ++ (f ∷ [])) ++ fs) ≡ true = ap rising (append_snoc es f fs) ∙ h in
    (latest-more f t k es l (rising-front (es ++ (f ∷ [])) fs g), g)

pub rebuilt-latest : (t : List ClientEntry) (es fs : List Entry) (os : List Outcome) → Latest t es → rising (es ++ fs) ≡ true
    → Latest (rebuilt t fs os) (es ++ fs)
unfolding rebuilt
rebuilt-latest t es [] os l h = rw (append-nil es) l
rebuilt-latest t es (f ∷ fs) [] l h =
    let s = latest-step t es f fs none l h in
    rw (← append_snoc es f fs) (rebuilt-latest (put t (entry_row f none)) (es ++ (f ∷ [])) fs [] s.0 s.1)
rebuilt-latest t es (f ∷ fs) (o ∷ os) l h =
    let s = latest-step t es f fs (some o) l h in
    rw (← append_snoc es f fs) (rebuilt-latest (put t (entry_row f (some o))) (es ++ (f ∷ [])) fs os s.0 s.1)

-- ---- the table of a log

module _ (log : List Entry) (rs : List Outcome) (k : ℕ) where
  pub table_none : (c : ℕ) (d : Entry) → ((j : ℕ) → j < length log → (get_or log j d).client ≡ c → ⊥) → find (table_of log rs k) c ≡ find [] c
  unfolding table_of
  table_none c d n = rebuilt-none c [] log (take k rs) d n

  -- what was given of the first k
  gave-taken : (i : ℕ) (o : Outcome) → k ≤ length rs → gave (take k rs) i ≡ (when ltb i k then some (get_or rs i o) else none)
  gave-taken i o h =
      let l : length (take k rs) ≡ k = length-take-le k rs h in
      split (λ (x : Option Outcome). gave (take k rs) i ≡ x) _ _ _
      (λ lt.
      let m : i < k = ltb-true i k lt in
      gave-inside (take k rs) i o (omega arith) ∙ ap some (get_or-take k rs i o m))
      (λ ge. let m : k ≤ i = ltb-false i k ge in gave-past (take k rs) i (omega arith))

  pub table-last : (d : Entry) (o : Outcome) (i : ℕ) → k ≤ length rs → i < length log
      → ((j : ℕ) → i < j → j < length log → (get_or log j d).client ≡ (get_or log i d).client → ⊥)
      → find (table_of log rs k) (get_or log i d).client ≡ seen_as (get_or log i d).request (when ltb i k then some (get_or rs i o) else none)
  unfolding table_of
  table-last d o i h l n = rebuilt-last [] log (take k rs) d i l n ∙ ap (seen_as (get_or log i d).request) (gave-taken i o h)

  pub table-there : (d : Entry) (i : ℕ) → i < length log → (find (table_of log rs k) (get_or log i d).client).there ≡ true
  unfolding table_of
  table-there d i h = rebuilt-there [] log (take k rs) d i h

  pub table-latest : rising log ≡ true → Latest (table_of log rs k) log
  unfolding table_of
  table-latest h = rebuilt-latest [] [] log (take k rs) latest-none h

-- ---- entries put one after the other

rebuilt-more : (t : List ClientEntry) (es : List Entry) (os : List Outcome) (e : Entry) → length os ≤ length es
    → rebuilt t (es ++ (e ∷ [])) os ≡ put (rebuilt t es os) (entry_row e none)
unfolding rebuilt
rebuilt-more t [] [] e h = refl
rebuilt-more t [] (o ∷ os) e h = absurd (omega arith)
rebuilt-more t (x ∷ es) [] e h = rebuilt-more (put t (entry_row x none)) es [] e (omega arith)
rebuilt-more t (x ∷ es) (o ∷ os) e h = rebuilt-more (put t (entry_row x (some o))) es os e (omega arith)

rebuilt-split : (t : List ClientEntry) (xs ys : List Entry) (os ps : List Outcome) → length xs ≡ length os
    → rebuilt t (xs ++ ys) (os ++ ps) ≡ rebuilt (rebuilt t xs os) ys ps
unfolding rebuilt
rebuilt-split t [] ys [] ps h = refl
rebuilt-split t [] ys (o ∷ os) ps h = absurd (omega arith)
rebuilt-split t (x ∷ xs) ys [] ps h = absurd (omega arith)
rebuilt-split t (x ∷ xs) ys (o ∷ os) ps h = rebuilt-split (put t (entry_row x (some o))) xs ys os ps (omega arith)

behind : (xs : List Entry) (e : Entry) (fs : List Entry) → rising (xs ++ e ∷ fs) ≡ true → follows e fs ≡ true
unfolding rising
behind [] e fs h = and_left _ _ h
behind (x ∷ xs) e fs h = behind xs e fs (and_right _ _ h)

-- ---- a commit: the reply goes to the entry's row, unless a later entry of the client stands there, with another number

module _ (e : Entry) (o : Outcome) where
  keep-new : (t : List ClientEntry) (k : Option Outcome) → find t e.client ≡ seen_as e.request k → keep t e o ≡ put t (entry_row e (some o))
  unfolding keep
  keep-new t k p =
      if-true _ _ _
      (and-true _ _ (ap (λ (x : Seen). x.there) p) (eq-eqb (find t e.client).request e.request (ap (λ (x : Seen). x.request) p)))

  keep-old : (t : List ClientEntry) → e.request < (find t e.client).request → keep t e o ≡ t
  unfolding keep
  keep-old t h = if-false _ _ _ (and-false (find t e.client).there _ (ne_eqb (find t e.client).request e.request (λ q. omega arith)))

  keep-other : (t : List ClientEntry) (c : ℕ) → (e.client ≡ c → ⊥) → find (keep t e o) c ≡ find t c
  unfolding keep entry_row
  keep-other t c n = split (λ (l : List ClientEntry). find l c ≡ find t c) _ _ _ (λ _. find-other t (entry_row e (some o)) c n) (λ _. refl)

  put-later : (t : List ClientEntry) (f : Entry) → breaks_at e f ≡ false → f.client ≡ e.client
      → e.request < (find (put t (entry_row f none)) e.client).request
  unfolding entry_row
  put-later t f b p =
      let s : find (put t (entry_row f none)) e.client ≡ seen_as f.request none =
      ap (find (put t (entry_row f none))) (sym p) ∙ find-put t (entry_row f none) in
      omega (arith, risen f e b (sym p), ap (λ (x : Seen). x.request) s)

  stays-later : (t : List ClientEntry) (fs : List Entry) → follows e fs ≡ true → e.request < (find t e.client).request
      → e.request < (find (rebuilt t fs []) e.client).request
  unfolding rebuilt follows entry_row
  stays-later t [] w h = h
  stays-later t (f ∷ fs) w h =
      stays-later (put t (entry_row f none)) fs (and_right _ _ w)
      (⊎_elim (put-later t f (not-true (breaks_at e f) (and_left _ _ w)))
      (λ n. rw (find-other t (entry_row f none) e.client n) h)
      (eq-or-not f.client e.client))

  -- a later entry of the client comes next
  next-mine : (t t' : List ClientEntry) (f : Entry) (fs : List Entry) → breaks_at e f ≡ false → follows e fs ≡ true → f.client ≡ e.client
      → find (keep (rebuilt (put t (entry_row f none)) fs []) e o) e.client ≡ find (rebuilt (put t' (entry_row f none)) fs []) e.client
  unfolding entry_row
  next-mine t t' f fs b w p =
      let s : find (put t (entry_row f none)) e.client ≡ find (put t' (entry_row f none)) e.client =
      rw (← p) (find-put t (entry_row f none) ∙ sym (find-put t' (entry_row f none))) in
      ap (λ (l : List ClientEntry). find l e.client) (keep-old _ (stays-later _ fs w (put-later t f b p)))
      ∙ rebuilt-same e.client _ _ fs [] s

  kept-mine : (t t' : List ClientEntry) (fs : List Entry) → follows e fs ≡ true
      → find t e.client ≡ seen_as e.request none → find t' e.client ≡ seen_as e.request (some o)
      → find (keep (rebuilt t fs []) e o) e.client ≡ find (rebuilt t' fs []) e.client
  unfolding rebuilt follows entry_row
  kept-mine t t' [] w p q =
      ap (λ (l : List ClientEntry). find l e.client) (keep-new t none p) ∙ find-put t (entry_row e (some o)) ∙ sym q
  kept-mine t t' (f ∷ fs) w p q =
      ⊎_elim (next-mine t t' f fs (not-true (breaks_at e f) (and_left _ _ w)) (and_right _ _ w))
      (λ n.
      kept-mine (put t (entry_row f none)) (put t' (entry_row f none)) fs (and_right _ _ w)
      (find-other t (entry_row f none) e.client n ∙ p)
      (find-other t' (entry_row f none) e.client n ∙ q))
      (eq-or-not f.client e.client)

  keep-rebuilt : (t : List ClientEntry) (fs : List Entry) → Rises t → follows e fs ≡ true
      → keep (rebuilt (put t (entry_row e none)) fs []) e o ≡ rebuilt (put t (entry_row e (some o))) fs []
  unfolding entry_row
  keep-rebuilt t fs s w =
      same_rows _ _
      (keep-rises _ e o (rebuilt-rises _ fs [] (put-rises t _ s)))
      (rebuilt-rises _ fs [] (put-rises t _ s))
      (λ c. ⊎_elim
      (λ p. rw (← p) (kept-mine _ _ fs w (find-put t (entry_row e none)) (find-put t (entry_row e (some o)))))
      (λ n.
      keep-other _ c n
      ∙ rebuilt-same c _ _ fs [] (find-other t (entry_row e none) c n ∙ sym (find-other t (entry_row e (some o)) c n)))
      (eq-or-not e.client c))

-- ---- an append and a commit on the table of a log

pub table-append : (log : List Entry) (rs : List Outcome) (k : ℕ) (e : Entry) → k ≤ length log
    → put (table_of log rs k) (entry_row e none) ≡ table_of (log ++ (e ∷ [])) rs k
unfolding table_of
table-append log rs k e h =
    let l : length (take k rs) ≤ length log = omega (arith, length-take k rs) in
    sym (rebuilt-more [] log (take k rs) e l)

-- the outcome of the entry that stands where the outcomes end
rebuilt-commit : (xs : List Entry) (e : Entry) (fs : List Entry) (os : List Outcome) (o : Outcome) → rising (xs ++ e ∷ fs) ≡ true → length xs ≡ length os
    → keep (rebuilt [] (xs ++ e ∷ fs) os) e o ≡ rebuilt [] (xs ++ e ∷ fs) (os ++ (o ∷ []))
unfolding rebuilt
rebuilt-commit xs e fs os o h l =
    ap (λ (t : List ClientEntry). keep t e o)
    (ap (rebuilt [] (xs ++ e ∷ fs)) (sym (append-nil os)) ∙ rebuilt-split [] xs (e ∷ fs) os [] l)
    ∙ keep-rebuilt e o (rebuilt [] xs os) fs (rebuilt-rises [] xs os tt) (behind xs e fs h)
    ∙ sym (rebuilt-split [] xs (e ∷ fs) os (o ∷ []) l)

pub table-commit : (log : List Entry) (rs : List Outcome) (k : ℕ) (e : Entry) (fs : List Entry) (o : Outcome) → rising log ≡ true → length rs ≡ k
    → drop k log ≡ e ∷ fs → keep (table_of log rs k) e o ≡ table_of log (rs ++ (o ∷ [])) (k + 1)
unfolding table_of
table-commit log rs k e fs o h l p =
    let s : take k log ++ e ∷ fs ≡ log = ap (λ (r : List Entry). take k log ++ r) (sym p) ∙ take-append-drop k log in
    let n : length (drop k log) ≡ suc (length fs) = ap (λ (r : List Entry). length r) p in
    let x : length (take k log) ≡ length rs = omega (arith, length-take k log, length-drop k log) in
    let a : take k rs ≡ rs = take_all k rs (omega arith) in
    let b : take (k + 1) (rs ++ (o ∷ [])) ≡ rs ++ (o ∷ []) = take_all (k + 1) (rs ++ (o ∷ [])) (omega (arith, length-append rs (o ∷ []))) in
    rw (a, b) (rw s at (rebuilt-commit (take k log) e fs rs o (ap rising s ∙ h) x))

-- ---- and on a book

-- a book's table is that of its log, its results and its commit number
abbrev pub Tabled : Book → Type 0
Tabled b = b.table ≡ table_of b.log b.results b.commit

append-tabled : (b : Book) (e : Entry) → b.commit ≤ length b.log → Tabled b → Tabled (append b e)
unfolding append
append-tabled b e h p = ap (λ (t : List ClientEntry). put t (entry_row e none)) p ∙ table-append b.log b.results b.commit e h

pub table-appends : (b : Book) (es : List Entry) → b.commit ≤ length b.log → Tabled b → Tabled (append_all b es)
unfolding append_all append
table-appends b [] h p = p
table-appends b (e ∷ es) h p = table-appends (append b e) es (omega (arith, length-append b.log (e ∷ []))) (append-tabled b e h p)

-- the entry given is the next one of the log
commit-tabled : (b : Book) (e : Entry) (fs : List Entry) → rising b.log ≡ true → length b.results ≡ b.commit → drop b.commit b.log ≡ e ∷ fs
    → Tabled b → Tabled (commit_one b e)
unfolding commit_one
commit-tabled b e fs h l d p =
    ap (λ (t : List ClientEntry). keep t e (outcome b.totals e)) p
    ∙ table-commit b.log b.results b.commit e fs (outcome b.totals e) h l d

pub table-commits : (b : Book) (es fs : List Entry) → rising b.log ≡ true → length b.results ≡ b.commit → drop b.commit b.log ≡ es ++ fs
    → Tabled b → Tabled (commit_all b es)
unfolding commit_all commit_one
table-commits b [] fs h l d p = p
table-commits b (e ∷ es) fs h l d p =
    table-commits (commit_one b e) es fs h (omega (arith, length-append b.results (outcome b.totals e ∷ [])))
    (sym (drop-drop 1 b.commit b.log) ∙ ap (drop 1) d) (commit-tabled b e (es ++ fs) h l d p)

pub table-commit-to : (b : Book) (k : ℕ) → rising b.log ≡ true → length b.results ≡ b.commit → Tabled b → Tabled (commit_up_to b k)
unfolding commit_up_to due_entries
table-commit-to b k h l p =
    let due : List Entry = drop b.commit b.log in
    table-commits b (due_entries b k) (drop (k - b.commit) due) h l (sym (take-append-drop (k - b.commit) due)) p
