-- Replies and their outcomes.
--     silent                   a call that leaves the area for replies alone
--     one_more, one-reply      a Reply behind others, and one alone
--     outcome-listed           the fee rules give an outcome of 1 to 6
--     committed-replies        the Replies of the ops that a call commits, out of the results that it wrote
-- Assumes nothing.
use mathlib.Core.Path.{◌≡◌, refl, sym, ap, ◌∙◌, subst}
use mathlib.Core.List.{List, [], ◌++◌, append_assoc, append-nil}
use mathlib.Core.Logic.{⊎_elim}
use Prim.Native.Nat.{ℕ, zero, suc, ◌+◌, ◌*◌, ◌≤◌, ◌<◌}
use native.Mathlib.Omega.{arith}
use lib.ListN.{length, take, drop, take-append-drop}
use lib.Seq.{drop_at, length-take-le}
use Rattle.numbers.specs.Numbers.{big, num, over, put_at}
use Rattle.numbers.specs.Cells.{cells}
use Rattle.numbers.specs.declared.View.{View}
use Rattle.numbers.proofs.NumberLaws.{be-big, num-drop, num-front, eq-or-not}
use Rattle.numbers.proofs.RunLaws.{over-nil}
use Rattle.entries.specs.Places.{entry_in}
use Rattle.entries.specs.declared.Entry.{Entry}
use Rattle.fees.specs.Fees.{outcome_on}
use Rattle.fees.specs.Results.{result_of, result_in, encode_result}
use Rattle.fees.specs.declared.Outcome.{Outcome}
use Rattle.writers.specs.Writers.{reply}
use Rattle.book.specs.Runs.{applied, money_committed, reply_to, replies}
use Rattle.book.specs.Memory.{Money}
use Rattle.book.proofs.RunLaws.{committed-lengths, reply-length, replies-length}
use Rattle.model.proofs.BookLaws.{outcome-code}
use Rattle.layout.specs.Layout.{total_of}
use Rattle.layout.proofs.BookLift.{outcome-lift}
use Rattle.steps.specs.Replying.{Replies, Replying}
use Rattle.steps.specs.Replying.Replies.{none, more}

-- an outcome's number
abbrev Listed : ℕ → Type 0
Listed k = (1 ≤ k) × (k ≤ 6)

-- ---- Replies

pub silent : {reps : List ℕ} → Replying reps reps 0
silent {reps} = record { bytes = []; replies = none; counted = refl; area = over-nil reps }

one_more : (bs : List ℕ) (v : View) (e : Entry) (o : Outcome) → Replies bs → Listed o.code → Replies (bs ++ reply_to v e o)
unfolding reply_to
one_more [] v e o none h = subst Replies (append-nil _) (more v e.client e.request o.code o.total [] h.0 h.1 none)
one_more bs v e o (more w c r k t rest l g ms) h =
    subst Replies (sym (append_assoc (reply w c r k t) rest _)) (more w c r k t _ l g (one_more rest v e o ms h))

-- one alone
pub one-reply : (v : View) (e : Entry) (o : Outcome) (reps : List ℕ) → 1 ≤ o.code → o.code ≤ 6 → Replying reps (over (reply_to v e o) reps) 36
one-reply v e o reps l g =
    record { bytes = reply_to v e o; replies = one_more [] v e o none (l, g); counted = reply-length v e o; area = refl }

-- ---- outcomes

pub outcome-listed : (M : ℕ) (s : List ℕ) (e : Entry) → (1 ≤ (outcome_on M s e).code) × ((outcome_on M s e).code ≤ 6)
outcome-listed M s e = subst (λ (o : Outcome). Listed o.code) (outcome-lift M s e) (outcome-code (cells 8 total_of M s) e)

-- a result that is written, and those before it
written : (p : ℕ) (o : Outcome) (s : List ℕ) → p ≤ length s → o.code < 256 → (result_of (drop p (put_at p (encode_result o) s))).code ≡ o.code
unfolding result_of encode_result put_at over big num
written p o s h l = rw (drop_at (take p s) _ p (length-take-le p s h)) (be-big 1 o.code l)

before : (a p : ℕ) (w s : List ℕ) → a < p → p ≤ length s → (result_of (drop a (put_at p w s))).code ≡ (result_of (drop a s)).code
unfolding result_of put_at
before a p w s h l =
    let n : a + 0 + 1 ≤ length (take p s) = omega (arith, length-take-le p s l, h) in
    num-drop 1 a 0 (take p s ++ over w (drop p s))
    ∙ num-front 1 (a + 0) (take p s) (over w (drop p s)) n
    ∙ sym (num-front 1 (a + 0) (take p s) (drop p s) n)
    ∙ ap (num 1 (a + 0)) (take-append-drop p s)
    ∙ sym (num-drop 1 a 0 s)

module _ (M : ℕ) (log : List ℕ) (from : ℕ) (x : Money) (wide : 8 * M ≤ length x.totals) where
  -- each of the k results that a commit writes is the rule's
  committed-listed : (k : ℕ) → 9 * (from + k) ≤ length x.results → (i : ℕ) → i < k
      → Listed (result_in (money_committed M log from k x).results (from + i)).code
  unfolding money_committed applied
  committed-listed zero r i h = absurd (omega arith)
  committed-listed (suc k) r i h =
      let y = money_committed M log from k x in
      let o = outcome_on M y.totals (entry_in log (from + k)) in
      let c = outcome-listed M y.totals (entry_in log (from + k)) in
      let l : 9 * (from + k) ≤ length y.results = omega (arith, r, (committed-lengths M log from k x wide (omega (arith, r))).0) in
      ⊎_elim
      (λ e. rw e (subst Listed (sym (written (9 * (from + k)) o y.results l (omega (arith, c.1)))) c))
      (λ n.
      subst Listed (sym (before (9 * (from + i)) (9 * (from + k)) (encode_result o) y.results (omega (arith, h, n)) l))
      (committed-listed k (omega (arith, r)) i (omega (arith, h, n))))
      (eq-or-not i k)

  written-replies : (v : View) (results : List ℕ) (k : ℕ) → ((i : ℕ) → i < k → Listed (result_in results (from + i)).code)
      → Replies (replies v log results from k)
  unfolding replies
  written-replies v results zero h = none
  written-replies v results (suc k) h =
      one_more (replies v log results from k) v (entry_in log (from + k)) (result_in results (from + k))
      (written-replies v results k (λ i l. h i (omega (arith, l)))) (h k (omega arith))

  pub committed-replies : (v : View) (k : ℕ) (reps : List ℕ) → 9 * (from + k) ≤ length x.results
      → Replying reps (over (replies v log (money_committed M log from k x).results from k) reps) (36 * k)
  committed-replies v k reps r =
      let results = (money_committed M log from k x).results in
      record {
        bytes = replies v log results from k;
        replies = written-replies v results k (committed-listed k r);
        counted = replies-length v log results from k;
        area = refl;
      }
