-- The model's client table.
--     put-rises, keep-rises, table-rises      client ids stay in rising order
--     put-length, absent                      how many rows, and a client that has none
--     below, below-le, below-low, below-high  how many rows stand before a client's
--     find_past, put-there, put-new           find and put by what stands from there on
--     append-fits, install-fits               a call leaves at most as many rows as the log has entries
-- Assumes nothing.
use Prim.Native.Nat.{ℕ, zero, suc, ◌+◌, ◌≤◌, ◌<◌}
use native.Mathlib.Omega.{arith}
use mathlib.Core.Path.{◌≡◌, refl, sym, ap, ◌∙◌}
use mathlib.Core.Bool.{true, false, false≢true}
use mathlib.Core.List.{List, [], ◌∷◌, ◌++◌}
use mathlib.Core.Option.{none, some}
use lib.Dec.{ltb}
use lib.ListN.{length, get_or, take, drop, length-append, length-take, length-drop}
use lib.Seq.{drop-drop}
use borrow.Author.Tests.{ltb-true, ltb-false, eqb-true, eqb-false, eq-eqb, ne_eqb, le-ltb}
use Rattle.numbers.specs.Words.{when◌then◌else◌}
use Rattle.numbers.proofs.WordLaws.{split, if-true, if-false, and_left}
use Rattle.entries.specs.declared.Entry.{Entry}
use Rattle.fees.specs.declared.Outcome.{Outcome}
use Rattle.model.specs.State.{ClientEntry, Book}
use Rattle.model.specs.Book.{Seen, find, put, entry_row, append, append_all, keep, commit_one, commit_all, due_entries, commit_up_to, rebuilt, table_of, install}
use Rattle.model.specs.Book.{Above, Rises}
use Rattle.model.proofs.BookLaws.{commit_all-log, append_all-length}

pub above_more : (a b : ℕ) (t : List ClientEntry) → a ≤ b → Above b t → Above a t
above_more a b [] h p = tt
above_more a b (r ∷ rs) h p = (omega arith, above_more a b rs h p.1)

put-above : (c : ℕ) (t : List ClientEntry) (r : ClientEntry) → c < r.client → Above c t → Above c (put t r)
unfolding put
put-above c [] r h p = (h, tt)
put-above c (q ∷ qs) r h p =
    split (Above c) _ _ _ (λ _. (h, p)) λ _.
    split (Above c) _ _ _ (λ _. (h, p.1)) (λ _. (p.0, put-above c qs r h p.1))

pub put-rises : (t : List ClientEntry) (r : ClientEntry) → Rises t → Rises (put t r)
unfolding put
put-rises [] r p = (tt, tt)
put-rises (q ∷ qs) r p =
    split Rises _ _ _ (λ lt. let h : r.client < q.client = ltb-true _ _ lt in ((h, above_more _ _ qs (omega arith) p.0), p)) λ ge.
    split Rises _ _ _
    (λ eq. let h : r.client ≡ q.client = eqb-true _ _ eq in (rw h p.0, p.1))
    (λ ne. let a : q.client ≤ r.client = ltb-false _ _ ge in let b : r.client ≡ q.client → ⊥ = eqb-false _ _ ne in
    (put-above _ qs r (omega (arith, b)) p.0, put-rises qs r p.1))

pub put-length : (t : List ClientEntry) (r : ClientEntry) → length (put t r) ≤ length t + 1
unfolding put
put-length [] r = omega arith
put-length (q ∷ qs) r =
    let P : List ClientEntry → Type 0 = λ l. length l ≤ length (q ∷ qs) + 1 in
    split P _ _ _ (λ _. omega arith) λ _. split P _ _ _ (λ _. omega arith) (λ _. omega (arith, put-length qs r))

pub absent : (c : ℕ) (t : List ClientEntry) → Above c t → find t c ≡ find [] c
unfolding find
absent c [] p = refl
absent c (q ∷ qs) p =
    split (λ (x : Seen). x ≡ find [] c) _ _ _
    (λ eq. let h : q.client ≡ c = eqb-true _ _ eq in absurd (omega arith)) (λ _. absent c qs p.1)

-- ---- where a client's row stands, or would go

-- the rows that stand before the first whose client isn't below c; ids rise, so all that are below
unfoldable pub below : ℕ → List ClientEntry → ℕ
below c [] = 0
below c (r ∷ rs) = when ltb r.client c then suc (below c rs) else 0

pub below-le : (c : ℕ) (t : List ClientEntry) → below c t ≤ length t
unfolding below
below-le c [] = omega arith
below-le c (r ∷ rs) = split (λ (k : ℕ). k ≤ length (r ∷ rs)) _ _ _ (λ _. omega (arith, below-le c rs)) (λ _. omega arith)

pub below-low : (c : ℕ) (t : List ClientEntry) (j : ℕ) (d : ClientEntry) → j < below c t → (get_or t j d).client < c
unfolding below
below-low c [] j d l = absurd (omega arith)
below-low c (r ∷ rs) zero d l =
    split (λ (k : ℕ). 0 < k → r.client < c) _ _ _ (λ lt _. ltb-true _ _ lt) (λ _ z. absurd (omega arith)) l
below-low c (r ∷ rs) (suc j) d l =
    split (λ (k : ℕ). suc j < k → (get_or rs j d).client < c) _ _ _ (λ _ z. below-low c rs j d (omega arith)) (λ _ z. absurd (omega arith)) l

above_at : (c : ℕ) (t : List ClientEntry) (j : ℕ) (d : ClientEntry) → Above c t → j < length t → c < (get_or t j d).client
above_at c [] j d a l = absurd (omega arith)
above_at c (r ∷ rs) zero d a l = a.0
above_at c (r ∷ rs) (suc j) d a l = above_at c rs j d a.1 (omega arith)

pub below-high : (c : ℕ) (t : List ClientEntry) (j : ℕ) (d : ClientEntry) → Rises t → below c t ≤ j → j < length t → c ≤ (get_or t j d).client
unfolding below
below-high c [] j d s l m = absurd (omega arith)
below-high c (r ∷ rs) zero d s l m =
    split (λ (k : ℕ). k ≤ 0 → c ≤ r.client) _ _ _ (λ _ z. absurd (omega arith)) (λ ge _. ltb-false _ _ ge) l
below-high c (r ∷ rs) (suc j) d s l m =
    split (λ (k : ℕ). k ≤ suc j → c ≤ (get_or rs j d).client) _ _ _ (λ _ z. below-high c rs j d s.1 (omega arith) (omega arith))
    (λ ge _. let a : c ≤ r.client = ltb-false _ _ ge in omega (arith, above_at r.client rs j d s.0 (omega arith))) l

-- the first client, if there is one, is c or above it
abbrev pub Floor : ℕ → List ClientEntry → Type 0
Floor c [] = Unit
Floor c (r ∷ rs) = c ≤ r.client

pub below_floor : (c : ℕ) (t : List ClientEntry) → Floor c (drop (below c t) t)
unfolding below
below_floor c [] = tt
below_floor c (r ∷ rs) = split (λ (k : ℕ). Floor c (drop k (r ∷ rs))) _ _ _ (λ _. below_floor c rs) (λ ge. ltb-false _ _ ge)

pub drop-rises : (k : ℕ) (t : List ClientEntry) → Rises t → Rises (drop k t)
drop-rises zero t s = s
drop-rises (suc k) [] s = s
drop-rises (suc k) (r ∷ rs) s = drop-rises k rs s.1

pub find_past : (c : ℕ) (t : List ClientEntry) → find t c ≡ find (drop (below c t) t) c
unfolding below find
find_past c [] = refl
find_past c (r ∷ rs) =
    split (λ (k : ℕ). find (r ∷ rs) c ≡ find (drop k (r ∷ rs)) c) _ _ _
    (λ lt. let l : r.client < c = ltb-true _ _ lt in if-false _ _ _ (ne_eqb r.client c (λ e. omega arith)) ∙ find_past c rs) (λ _. refl)

put-past : (q : ClientEntry) (t : List ClientEntry) → put t q ≡ take (below q.client t) t ++ put (drop (below q.client t) t) q
unfolding below put
put-past q [] = refl
put-past q (r ∷ rs) =
    split (λ (k : ℕ). put (r ∷ rs) q ≡ take k (r ∷ rs) ++ put (drop k (r ∷ rs)) q) _ _ _
    (λ lt.
    let l : r.client < q.client = ltb-true _ _ lt in
    if-false _ _ _ (le-ltb q.client r.client (omega arith)) ∙ if-false _ _ _ (ne_eqb q.client r.client (λ e. omega arith))
    ∙ ap (◌∷◌ r) (put-past q rs))
    (λ _. refl)

-- in place of the client's row
head-there : (q : ClientEntry) (t : List ClientEntry) → Floor q.client t → Rises t → (find t q.client).there ≡ true → put t q ≡ q ∷ drop 1 t
unfolding put find
head-there q [] f s p = absurd (false≢true p)
head-there q (r ∷ rs) f s p =
    split (λ (l : List ClientEntry). l ≡ q ∷ rs) _ _ _
    (λ lt.
    let l : q.client < r.client = ltb-true _ _ lt in
    let n : find (r ∷ rs) q.client ≡ find [] q.client = absent q.client (r ∷ rs) (l, above_more _ _ rs (omega arith) s.0) in
    absurd (false≢true (sym (ap (λ (x : Seen). x.there) n) ∙ p)))
    (λ ge. let l : r.client ≤ q.client = ltb-false _ _ ge in if-true _ _ _ (eq-eqb q.client r.client (omega arith)))

pub put-there : (q : ClientEntry) (t : List ClientEntry) → Rises t → (find t q.client).there ≡ true
    → put t q ≡ take (below q.client t) t ++ q ∷ drop (below q.client t + 1) t
put-there q t s p =
    put-past q t
    ∙ ap (λ (l : List ClientEntry). take (below q.client t) t ++ l)
    (head-there q _ (below_floor q.client t) (drop-rises (below q.client t) t s)
    (sym (ap (λ (x : Seen). x.there) (find_past q.client t)) ∙ p)
    ∙ ap (◌∷◌ q) (drop-drop 1 (below q.client t) t))

-- as a new one
head-new : (q : ClientEntry) (t : List ClientEntry) → Floor q.client t → (find t q.client).there ≡ false → put t q ≡ q ∷ t
unfolding put find
head-new q [] f p = refl
head-new q (r ∷ rs) f p =
    split (λ (l : List ClientEntry). l ≡ q ∷ r ∷ rs) _ _ _ (λ _. refl) λ ge.
    let l : r.client ≤ q.client = ltb-false _ _ ge in
    let n : (find (r ∷ rs) q.client).there ≡ true =
    ap (λ (x : Seen). x.there) (if-true _ _ _ (eq-eqb r.client q.client (omega arith))) in
    absurd (false≢true (sym p ∙ n))

pub put-new : (q : ClientEntry) (t : List ClientEntry) → (find t q.client).there ≡ false
    → put t q ≡ take (below q.client t) t ++ q ∷ drop (below q.client t) t
put-new q t p =
    put-past q t
    ∙ ap (λ (l : List ClientEntry). take (below q.client t) t ++ l)
    (head-new q _ (below_floor q.client t) (sym (ap (λ (x : Seen). x.there) (find_past q.client t)) ∙ p))

-- a client that has a row stands before the end
pub there-inside : (c : ℕ) (t : List ClientEntry) → (find t c).there ≡ true → below c t < length t
unfolding below find
there-inside c [] p = absurd (false≢true p)
there-inside c (r ∷ rs) p =
    split (λ (k : ℕ). k < length (r ∷ rs)) _ _ _
    (λ lt.
    let l : r.client < c = ltb-true _ _ lt in
    let m : find (r ∷ rs) c ≡ find rs c = if-false _ _ _ (ne_eqb r.client c (λ e. omega arith)) in
    omega (arith, there-inside c rs (sym (ap (λ (x : Seen). x.there) m) ∙ p)))
    (λ _. omega arith)

-- ---- the model's changes of the table

pub keep-rises : (t : List ClientEntry) (e : Entry) (o : Outcome) → Rises t → Rises (keep t e o)
unfolding keep
keep-rises t e o p = split Rises _ _ _ (λ _. put-rises t _ p) (λ _. p)

pub rebuilt-rises : (new : List ClientEntry) (es : List Entry) (os : List Outcome) → Rises new → Rises (rebuilt new es os)
unfolding rebuilt
rebuilt-rises new [] os p = p
rebuilt-rises new (e ∷ es) [] p = rebuilt-rises (put new (entry_row e none)) es [] (put-rises new _ p)
rebuilt-rises new (e ∷ es) (o ∷ os) p = rebuilt-rises (put new (entry_row e (some o))) es os (put-rises new _ p)

pub table-rises : (log : List Entry) (results : List Outcome) (commit : ℕ) → Rises (table_of log results commit)
unfolding table_of
table-rises log results commit = rebuilt-rises [] log (take commit results) tt

keep-length : (t : List ClientEntry) (e : Entry) (o : Outcome) → Rises t → length (keep t e o) ≡ length t
unfolding keep entry_row
keep-length t e o s =
    let k : ℕ = below e.client t in
    split (λ (l : List ClientEntry). length l ≡ length t) _ _ _
    (λ f.
    let p : (find t e.client).there ≡ true = and_left _ _ f in
    let i : k < length t = there-inside e.client t p in
    ap (λ (l : List ClientEntry). length l) (put-there (entry_row e (some o)) t s p) ∙ simp (length-append, length-take, length-drop) (omega arith))
    (λ _. refl)

-- A table that has at most as many rows as the log has entries stays so.
one_more : (t : List ClientEntry) (r : ClientEntry) (n k : ℕ) → k ≤ length (put t r) + n → k ≤ length t + suc n
one_more t r n k l = omega (arith, put-length t r)

append_all-table : (b : Book) (es : List Entry) → Rises b.table
    → Rises (append_all b es).table × (length (append_all b es).table ≤ length b.table + length es)
unfolding append_all append
append_all-table b [] s = (s, omega arith)
append_all-table b (e ∷ es) s =
    let r = append_all-table (append b e) es (put-rises b.table (entry_row e none) s) in
    (r.0, one_more b.table (entry_row e none) (length es) _ r.1)

rebuilt-length : (new : List ClientEntry) (es : List Entry) (os : List Outcome) → length (rebuilt new es os) ≤ length new + length es
unfolding rebuilt
rebuilt-length new [] os = omega arith
rebuilt-length new (e ∷ es) [] = one_more new _ (length es) _ (rebuilt-length (put new (entry_row e none)) es [])
rebuilt-length new (e ∷ es) (o ∷ os) = one_more new _ (length es) _ (rebuilt-length (put new (entry_row e (some o))) es os)

pub table-length : (log : List Entry) (results : List Outcome) (commit : ℕ) → length (table_of log results commit) ≤ length log
unfolding table_of
table-length log results commit = omega (arith, rebuilt-length [] log (take commit results))

commit_all-length : (b : Book) (es : List Entry) → Rises b.table → length (commit_all b es).table ≡ length b.table
unfolding commit_all commit_one
commit_all-length b [] s = refl
commit_all-length b (e ∷ es) s =
    commit_all-length (commit_one b e) es (keep-rises b.table e _ s) ∙ keep-length b.table e _ s

pub append-fits : (b : Book) (es : List Entry) (j : ℕ) → Rises b.table → length b.table ≤ length b.log
    → length (commit_up_to (append_all b es) j).table ≤ length (commit_up_to (append_all b es) j).log
unfolding commit_up_to
append-fits b es j s l =
    let a = append_all-table b es s in
    rw (commit_all-length (append_all b es) (due_entries (append_all b es) j) a.0, commit_all-log)
    (omega (arith, a.1, append_all-length b es))

pub install-fits : (b : Book) (log : List Entry) (j : ℕ)
    → length (commit_up_to (install b log) j).table ≤ length (commit_up_to (install b log) j).log
unfolding commit_up_to install
install-fits b log j =
    rw (commit_all-length (install b log) (due_entries (install b log) j) (table-rises log b.results b.commit), commit_all-log)
    (table-length log b.results b.commit)
