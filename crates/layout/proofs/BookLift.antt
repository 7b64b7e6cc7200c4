-- The book's bytes are the model's book: what a call leaves in the lent runs, read as a book, is what the model makes of the book read before.
--     outcome-lift, totals-lift                 the fee rules on a run of totals
--     outcome_fits, totals-bytes                what they give fits its bytes
--     due-more, due-length                      the entries that commits go through
--     commit-lift, settle-lift                  commits: so many more, and up to an op number, which may be behind
--     append-lift, part-lift, install-lift      entries written behind the log, or in place of its later part
--     replies-lift, settle-replies, settle-replies-length    the replies of a commit
-- Assumes nothing.
use Prim.Native.Nat.{ℕ, zero, suc, ◌+◌, ◌-◌, ◌*◌, ◌^◌, max, ◌≤◌, ◌<◌}
use native.Mathlib.Nat.{add-zero, add-suc}
use native.Mathlib.Omega.{arith}
use mathlib.Core.Path.{◌≡◌, refl, ap, sym, ◌∙◌}
use mathlib.Core.List.{List, [], ◌∷◌, ◌++◌, append_assoc, append-nil}
use lib.Dec.{ltb}
use lib.ListN.{length, get_or, take, drop, set, length-take, length-drop}
use lib.Seq.{take-suc, take_all, get_or-drop, drop_at}
use borrow.Author.Tests.{ltb-true, ltb-false}
use Rattle.numbers.specs.Numbers.{num, big, put_at, Bytes}
use Rattle.numbers.specs.declared.View.{View}
use Rattle.numbers.specs.Cells.{cells, packed, Codec}
use Rattle.numbers.proofs.WordLaws.{split, split₂}
use Rattle.numbers.proofs.NumberLaws.{be-big, num-lt, num-drop, num-front, big-bytes}
use Rattle.numbers.proofs.RunLaws.{put-bytes}
use Rattle.numbers.proofs.CellLaws.{cells-length, cells-get, cells-put, cells-more, cells-take, packed-append}
use Rattle.entries.specs.Entries.{operation_of, entry_of, encode_entry, entries, EntryFits}
use Rattle.entries.specs.Places.{entry_place, entry_in}
use Rattle.entries.specs.declared.Entry.{Entry}
use Rattle.entries.specs.declared.Operation.{Operation}
use Rattle.entries.specs.declared.Operation.TheVariants.{Fee, Refund, Ask}
use Rattle.entries.proofs.PlaceLaws.{place-next}
use Rattle.fees.specs.Fees as F
use Rattle.fees.specs.Results.{result_of, encode_result, ResultFits, outcomes}
use Rattle.fees.specs.Takings.{takings_after}
use Rattle.fees.specs.declared.Outcome.{Outcome}
use Rattle.fees.proofs.ResultLaws.{result-codec}
use Rattle.book.specs.Log.{with_entries}
use Rattle.book.specs.Runs.{applied, money_committed, takings_committed, reply_to, replies}
use Rattle.book.specs.Memory.{Money}
use Rattle.book.proofs.LogLaws.{entry-get, append-entries, part-entries}
use Rattle.book.proofs.RunLaws.{committed-lengths, replies-length}
use Rattle.model.specs.State.{ClientEntry, Book}
use Rattle.model.specs.Book.{outcome, totals_after, through, results_of, takings_through, append, append_all, commit_all, due_entries, commit_up_to, install}
use Rattle.model.specs.Book.{replies_of, commit_replies}
use Rattle.model.specs.Sending.{reply_bytes, replies_out}
use Rattle.layout.specs.Layout.{total_of, book_of}
use Rattle.model.proofs.BookLaws.{outcome-code, through-append, answers-length, answers-append, takings-append, replies-end}
use Rattle.model.proofs.BookLaws.{commit_all-log, commit_all-commit, commit_all-results, commit_all-totals, commit_all-takings}
use Rattle.model.proofs.BookLaws.{append_all-log, append_all-rest}

-- ---- the fee rules

abbrev Small : ℕ → Type 0
Small t = t < 2 ^ 64

total-codec : Codec 8 total_of (big 8) Small
unfolding num big
total-codec = record { width = λ x. refl; front = λ s t h. num-front 8 0 s t h; back = λ x t f. be-big 8 x f }

abbrev SmallIn : Outcome → Type 0
SmallIn o = o.total < 2 ^ 64

rule-small : (t cents : ℕ) (op : Operation) → Small t → SmallIn (F.rule t op cents)
unfolding F.rule
rule-small t cents Fee h = split SmallIn _ _ _ (λ _. h) (λ l. let k = ltb-false 1000000000 (t + cents) l in omega arith)
rule-small t cents Refund h = split SmallIn _ _ _ (λ _. h) (λ _. omega arith)
rule-small t cents Ask h = h

module _ (M : ℕ) (s : List ℕ) (e : Entry) where
  inside-same : ltb e.member (length (cells 8 total_of M s)) ≡ ltb e.member M
  inside-same = ap (ltb e.member) (cells-length 8 total_of M s)

  at-member : e.member < M → get_or (cells 8 total_of M s) e.member 0 ≡ F.total_at e.member s
  at-member h =
      cells-get 8 total_of M s e.member 0 h ∙ num-drop 8 (8 * e.member) 0 s ∙ ap (λ (k : ℕ). num 8 k s) (add-zero (8 * e.member))

  pub outcome-lift : outcome (cells 8 total_of M s) e ≡ F.outcome_on M s e
  unfolding outcome F.outcome_on
  outcome-lift =
      split₂ (λ (a b : Outcome). a ≡ b) _ _ _ _ _ _ inside-same
      (λ p. ap (λ (t : ℕ). F.rule t (operation_of e.operation) e.cents) (at-member (ltb-true _ _ (sym inside-same ∙ p)))) (λ _. refl)

  module _ (bytes : Bytes s) (wide : 8 * M ≤ length s) where
    small : SmallIn (F.outcome_on M s e)
    unfolding F.outcome_on
    small =
        split SmallIn _ _ _
        (λ p.
        let l : e.member < M = ltb-true _ _ p in
        rule-small (F.total_at e.member s) e.cents (operation_of e.operation) (num-lt 8 (8 * e.member) s bytes (omega arith)))
        (λ _. omega arith)

    pub outcome_fits : ResultFits (F.outcome_on M s e)
    outcome_fits =
        let c : (outcome (cells 8 total_of M s) e).code ≤ 6 = (outcome-code (cells 8 total_of M s) e).1 in
        record { code = omega (arith, c, ap (λ (o : Outcome). o.code) outcome-lift); total = small }

    pub totals-lift : cells 8 total_of M (F.total_bytes_after M s e) ≡ totals_after (cells 8 total_of M s) e
    unfolding totals_after F.total_bytes_after
    totals-lift =
        split₂ (λ (a b : List ℕ). cells 8 total_of M a ≡ b) _ _ _ _ _ _ (sym inside-same)
        (λ p.
        cells-put 8 total_of (big 8) Small total-codec M s e.member (F.outcome_on M s e).total small (ltb-true _ _ p) wide
        ∙ ap (λ (o : Outcome). set (cells 8 total_of M s) e.member o.total) (sym outcome-lift))
        (λ _. refl)

    pub totals-bytes : Bytes (F.total_bytes_after M s e)
    unfolding F.total_bytes_after
    totals-bytes = split Bytes _ _ _ (λ _. put-bytes (8 * e.member) _ s (big-bytes 8 _) bytes) (λ _. bytes)

-- ---- commits

-- the k entries after the first `from`
pub due-more : (log : List ℕ) (op from k : ℕ) → from + k < op
    → take (suc k) (drop from (entries op log)) ≡ take k (drop from (entries op log)) ++ entry_in log (from + k) ∷ []
due-more log op from k h =
    let d : Entry = entry_in log 0 in
    let l : k < length (drop from (entries op log)) = simp (length-drop, cells-length) (omega arith) in
    take-suc (drop from (entries op log)) k d l
    ∙ ap (λ (e : Entry). take k (drop from (entries op log)) ++ e ∷ [])
    (get_or-drop from (entries op log) k d ∙ entry-get op log (from + k) d h)

pub due-length : (log : List ℕ) (op from k : ℕ) → from + k ≤ op → length (take k (drop from (entries op log))) ≡ k
due-length log op from k h = simp (length-take, length-drop, cells-length) (omega arith)

module _ (M : ℕ) (log : List ℕ) (from : ℕ) (x : Money) (bytes : Bytes x.totals) (wide : 8 * M ≤ length x.totals) where
  committed-bytes : (k : ℕ) → 9 * (from + k) ≤ length x.results → Bytes (money_committed M log from k x).totals
  unfolding money_committed applied
  committed-bytes zero r = bytes
  committed-bytes (suc k) r =
      let l : 9 * (from + k) ≤ length x.results = omega arith in
      totals-bytes M (money_committed M log from k x).totals (entry_in log (from + k)) (committed-bytes k l)
      (omega (arith, (committed-lengths M log from k x wide l).1))

  -- totals, takings and results, by the rules on lists
  totals-through : (op k : ℕ) → 9 * (from + k) ≤ length x.results → from + k ≤ op
      → cells 8 total_of M (money_committed M log from k x).totals ≡ through (cells 8 total_of M x.totals) (take k (drop from (entries op log)))
  unfolding money_committed applied through
  totals-through op zero r h = refl
  totals-through op (suc k) r h =
      let l : 9 * (from + k) ≤ length x.results = omega arith in
      let y = (money_committed M log from k x).totals in
      let e = entry_in log (from + k) in
      totals-lift M y e (committed-bytes k l) (omega (arith, (committed-lengths M log from k x wide l).1))
      ∙ ap (λ (ts : List ℕ). totals_after ts e) (totals-through op k l (omega arith))
      ∙ sym (through-append (cells 8 total_of M x.totals) (take k (drop from (entries op log))) (e ∷ []))
      ∙ ap (through (cells 8 total_of M x.totals)) (sym (due-more log op from k (omega arith)))

  takings-through : (op k : ℕ) → 9 * (from + k) ≤ length x.results → from + k ≤ op → (w : ℕ)
      → takings_committed M log from k x w ≡ takings_through w (cells 8 total_of M x.totals) (take k (drop from (entries op log)))
  unfolding takings_committed takings_through
  takings-through op zero r h w = refl
  takings-through op (suc k) r h w =
      let l : 9 * (from + k) ≤ length x.results = omega arith in
      let y = (money_committed M log from k x).totals in
      let e = entry_in log (from + k) in
      let ts = cells 8 total_of M x.totals in
      let es = take k (drop from (entries op log)) in
      let q : F.outcome_on M y e ≡ outcome (through ts es) e =
      sym (outcome-lift M y e) ∙ ap (λ (z : List ℕ). outcome z e) (totals-through op k l (omega arith)) in
      (λ i. takings_after (takings-through op k l (omega arith) w i) (q i) e.cents)
      ∙ sym (takings-append w ts es (e ∷ [])) ∙ ap (takings_through w ts) (sym (due-more log op from k (omega arith)))

  results-answers : (op k : ℕ) → 9 * (from + k) ≤ length x.results → from + k ≤ op
      → outcomes (from + k) (money_committed M log from k x).results
      ≡ outcomes from x.results ++ results_of (cells 8 total_of M x.totals) (take k (drop from (entries op log)))
  unfolding money_committed applied results_of
  results-answers op zero r h = rw (add-zero from) (sym (append-nil (outcomes from x.results)))
  results-answers op (suc k) r h =
      let l : 9 * (from + k) ≤ length x.results = omega arith in
      let y = money_committed M log from k x in
      let e = entry_in log (from + k) in
      let ts = cells 8 total_of M x.totals in
      let es = take k (drop from (entries op log)) in
      let o = F.outcome_on M y.totals e in
      let n = committed-lengths M log from k x wide l in
      let f : ResultFits o = outcome_fits M y.totals e (committed-bytes k l) (omega (arith, n.1)) in
      let m : from + suc k ≡ suc (from + k) = add-suc from k in
      let q : o ≡ outcome (through ts es) e =
      sym (outcome-lift M y.totals e) ∙ ap (λ (z : List ℕ). outcome z e) (totals-through op k l (omega arith)) in
      ap (λ (c : ℕ). outcomes c (put_at (9 * (from + k)) (encode_result o) y.results)) m
      ∙ cells-more 9 result_of encode_result ResultFits result-codec (from + k) y.results o f (omega (arith, n.0))
      ∙ ap (λ (z : List Outcome). z ++ o ∷ []) (results-answers op k l (omega arith))
      ∙ append_assoc (outcomes from x.results) (results_of ts es) (o ∷ [])
      ∙ ap (λ (z : Outcome). outcomes from x.results ++ (results_of ts es ++ (z ∷ []))) q
      ∙ ap (λ (z : List Outcome). outcomes from x.results ++ z)
      (sym (answers-append ts es (e ∷ [])) ∙ ap (results_of ts) (sym (due-more log op from k (omega arith))))

  -- the k entries after the first `from` are money_committed
  all-lift : (op k : ℕ) → 9 * (from + k) ≤ length x.results → from + k ≤ op → (w : ℕ) (t : List ClientEntry) (a : List Entry) (c : Book)
      → c ≡ commit_all (book_of M op from log x w t a) (take k (drop from (entries op log)))
      → book_of M op (from + k) log (money_committed M log from k x) (takings_committed M log from k x w) c.table c.applied ≡ c
  unfolding book_of
  all-lift op k r h w t a c p =
      let b = book_of M op from log x w t a in
      let es = take k (drop from (entries op log)) in
      let l : c.log ≡ entries op log = rw p (commit_all-log b es) in
      let n : c.commit ≡ from + k = rw p (commit_all-commit b es ∙ ap (◌+◌ from) (due-length log op from k h)) in
      let o : c.results ≡ outcomes (from + k) (money_committed M log from k x).results =
      rw p (commit_all-results b es) ∙ sym (results-answers op k r h) in
      let s : c.totals ≡ cells 8 total_of M (money_committed M log from k x).totals =
      rw p (commit_all-totals b es) ∙ sym (totals-through op k r h) in
      let g : c.takings ≡ takings_committed M log from k x w = rw p (commit_all-takings b es) ∙ sym (takings-through op k r h w) in
      λ i. record {
        log = sym l i;
        commit = sym n i;
        results = sym o i;
        table = c.table;
        totals = sym s i;
        takings = sym g i;
        applied = c.applied;
      }

  module _ (op : ℕ) (w : ℕ) (t : List ClientEntry) (a : List Entry) where
    -- k ops more
    pub commit-lift : (k : ℕ) → 9 * (from + k) ≤ length x.results → from + k ≤ op
        → book_of M op (from + k) log (money_committed M log from k x) (takings_committed M log from k x w)
        (commit_up_to (book_of M op from log x w t a) (from + k)).table (commit_up_to (book_of M op from log x w t a) (from + k)).applied
        ≡ commit_up_to (book_of M op from log x w t a) (from + k)
    unfolding commit_up_to due_entries book_of
    commit-lift k r h =
        let b = book_of M op from log x w t a in
        let e : from + k - from ≡ k = omega arith in
        all-lift op k r h w t a _ (ap (λ (j : ℕ). commit_all b (take j (drop from (entries op log)))) e)

    -- up to op number j, which may be behind
    pub settle-lift : (j : ℕ) → 9 * op ≤ length x.results → from ≤ op → j ≤ op
        → book_of M op (max from j) log (money_committed M log from (j - from) x) (takings_committed M log from (j - from) x w)
        (commit_up_to (book_of M op from log x w t a) j).table (commit_up_to (book_of M op from log x w t a) j).applied
        ≡ commit_up_to (book_of M op from log x w t a) j
    unfolding commit_up_to due_entries book_of
    settle-lift j r g h =
        let e : max from j ≡ from + (j - from) = omega arith in
        rw e (all-lift op (j - from) (omega arith) (omega arith) w t a _ refl)

-- ---- entries written

module _ (M op commit : ℕ) (log : List ℕ) (x : Money) (w : ℕ) (t : List ClientEntry) (a : List Entry) where
  pub append-lift : (e : Entry) → EntryFits e → entry_place (op + 1) ≤ length log
      → book_of M (op + 1) commit (with_entries op (encode_entry e) log) x w (append (book_of M op commit log x w t a) e).table a
      ≡ append (book_of M op commit log x w t a) e
  unfolding book_of append
  append-lift e f h =
      let n : op + 1 ≡ suc op = omega arith in
      let l : entries (op + 1) (with_entries op (encode_entry e) log) ≡ entries op log ++ e ∷ [] =
      rw n (append-entries op log e f (omega (arith, place-next op))) in
      let c = append (book_of M op commit log x w t a) e in
      λ i. record { log = l i; commit = commit; results = c.results; table = c.table; totals = c.totals; takings = w; applied = a }

  pub part-lift : (k : ℕ) (part : List ℕ) → entry_place (op + k) ≤ length log → 32 * k ≤ length part
      → book_of M (op + k) commit (with_entries op (take (32 * k) part) log) x w
      (append_all (book_of M op commit log x w t a) (entries k part)).table a
      ≡ append_all (book_of M op commit log x w t a) (entries k part)
  unfolding book_of
  part-lift k part h g =
      let b = book_of M op commit log x w t a in
      let c = append_all b (entries k part) in
      let l : entries (op + k) (with_entries op (take (32 * k) part) log) ≡ c.log =
      part-entries op log k part h g ∙ sym (append_all-log b (entries k part)) in
      let r = append_all-rest b (entries k part) in
      λ i. record {
        log = l i;
        commit = sym r.commit i;
        results = sym r.results i;
        table = c.table;
        totals = sym r.totals i;
        takings = sym r.takings i;
        applied = sym r.applied i;
      }

  -- in place of what stood after the first n: a whole log where n is 0, what follows our money_committed entries where it is the commit number
  pub install-lift : (n k : ℕ) (part : List ℕ) → n ≤ op → entry_place (n + k) ≤ length log → 32 * k ≤ length part
      → book_of M (n + k) commit (with_entries n (take (32 * k) part) log) x w
      (install (book_of M op commit log x w t a) (take n (entries op log) ++ entries k part)).table a
      ≡ install (book_of M op commit log x w t a) (take n (entries op log) ++ entries k part)
  unfolding book_of install
  install-lift n k part m h g =
      let c = install (book_of M op commit log x w t a) (take n (entries op log) ++ entries k part) in
      let l : entries (n + k) (with_entries n (take (32 * k) part) log) ≡ take n (entries op log) ++ entries k part =
      part-entries n log k part h g ∙ ap (λ (es : List Entry). es ++ entries k part) (sym (cells-take 32 entry_of op log n m)) in
      λ i. record { log = l i; commit = commit; results = c.results; table = c.table; totals = c.totals; takings = w; applied = a }

-- ---- replies

one-reply : (v : View) (e : Entry) (o : Outcome) → reply_to v e o ≡ packed reply_bytes (replies_of v.0 (e ∷ []) (o ∷ []))
unfolding reply_to packed reply_bytes replies_of
one-reply v e o = sym (append-nil _)

module _ (v : View) (log : List ℕ) (from : ℕ) where
  -- replies as they are written, out of entries and results
  replies-read : (op n k : ℕ) (rs : List ℕ) → from + k ≤ op → from + k ≤ n
      → replies v log rs from k ≡ replies_out (replies_of v.0 (take k (drop from (entries op log))) (take k (drop from (outcomes n rs))))
  unfolding replies replies_out replies_of packed
  replies-read op n zero rs h g = refl
  replies-read op n (suc k) rs h g =
      let es = take k (drop from (entries op log)) in
      let os = take k (drop from (outcomes n rs)) in
      let e = entry_in log (from + k) in
      let o = result_of (drop (9 * (from + k)) rs) in
      let l : k < length (drop from (outcomes n rs)) = simp (length-drop, cells-length) (omega arith) in
      let m : length es ≡ length os = simp (length-take, length-drop, cells-length) (omega arith) in
      let q : take (suc k) (drop from (outcomes n rs)) ≡ os ++ o ∷ [] =
      take-suc (drop from (outcomes n rs)) k o l
      ∙ ap (λ (z : Outcome). os ++ z ∷ []) (get_or-drop from (outcomes n rs) k o ∙ cells-get 9 result_of n rs (from + k) o (omega arith)) in
      rw (due-more log op from k (omega arith), q, replies-end v.0 es os e o m, packed-append reply_bytes (replies_of v.0 es os))
      (λ i. replies-read op n k rs (omega arith) (omega arith) i ++ one-reply v e o i)

module _ (v : View) (M : ℕ) (log : List ℕ) (from : ℕ) (x : Money) (bytes : Bytes x.totals) (wide : 8 * M ≤ length x.totals)
    (op : ℕ) (w : ℕ) (t : List ClientEntry) (a : List Entry) where
  -- the replies of the k ops after the first `from`
  all-replies : (k : ℕ) → 9 * (from + k) ≤ length x.results → from + k ≤ op
      → replies v log (money_committed M log from k x).results from k
      ≡ replies_out (replies_of v.0 (take k (drop from (entries op log)))
      (results_of (cells 8 total_of M x.totals) (take k (drop from (entries op log)))))
  all-replies k r h =
      let es = take k (drop from (entries op log)) in
      let os = results_of (cells 8 total_of M x.totals) es in
      let n : length os ≡ k = answers-length (cells 8 total_of M x.totals) es ∙ due-length log op from k h in
      let q : take k (drop from (outcomes (from + k) (money_committed M log from k x).results)) ≡ os =
      let f = outcomes from x.results in
      rw (results-answers M log from x bytes wide op k r h, drop_at f os from (cells-length 9 result_of from x.results)) (take_all k os (omega arith)) in
      replies-read v log from op (from + k) k (money_committed M log from k x).results h (omega arith)
      ∙ ap (λ (z : List Outcome). replies_out (replies_of v.0 es z)) q

  pub replies-lift : (k : ℕ) → 9 * (from + k) ≤ length x.results → from + k ≤ op
      → replies v log (money_committed M log from k x).results from k
      ≡ replies_out (commit_replies v.0 (book_of M op from log x w t a) (from + k))
  unfolding commit_replies due_entries book_of
  replies-lift k r h =
      let e : from + k - from ≡ k = omega arith in
      rw e (all-replies k r h)

  pub settle-replies : (j : ℕ) → 9 * op ≤ length x.results → from ≤ op → j ≤ op
      → replies v log (money_committed M log from (j - from) x).results from (j - from)
      ≡ replies_out (commit_replies v.0 (book_of M op from log x w t a) j)
  unfolding commit_replies due_entries book_of
  settle-replies j r g h = all-replies (j - from) (omega arith) (omega arith)

  pub settle-replies-length : (j : ℕ) → 9 * op ≤ length x.results → from ≤ op → j ≤ op
      → length (replies_out (commit_replies v.0 (book_of M op from log x w t a) j)) ≡ 36 * (j - from)
  settle-replies-length j r g h =
      rw (← settle-replies j r g h) (replies-length v log (money_committed M log from (j - from) x).results from (j - from))
