-- Laws of results and totals in lent runs, and of the replies.
--     applied-of                                   one entry applied, from what the two writers left
--     commit-none, commit-more                     a turn of the commits
--     takings-none, takings-more                   and of the takings
--     totals-length, applied-lengths, committed-lengths   the two runs keep their lengths
--     reply-length, replies-length                 36 bytes a reply
--     replies-none, replies-more                   a turn of the replies
-- Assumes nothing.
use mathlib.Core.Path.{◌≡◌, refl, ap, ◌∙◌}
use mathlib.Core.List.{List, ◌++◌}
use Prim.Native.Nat.{ℕ, zero, suc, ◌+◌, ◌-◌, ◌*◌, ◌≤◌}
use native.Mathlib.Numerals.{add-one}
use native.Mathlib.Omega.{arith}
use lib.Dec.{ltb}
use lib.ListN.{length, take, drop, length-append}
use borrow.Author.Tests.{ltb-true}
use Rattle.numbers.specs.Numbers.{big, over, put_at}
use Rattle.numbers.specs.declared.View.{View}
use Rattle.numbers.proofs.WordLaws.{split}
use Rattle.numbers.proofs.NumberLaws.{length-big}
use Rattle.numbers.proofs.RunLaws.{put-part, put-length, over-lend, over-nil}
use Rattle.entries.specs.Places.{result_place, entry_in}
use Rattle.entries.specs.declared.Entry.{Entry}
use Rattle.entries.proofs.PlaceLaws.{result-next}
use Rattle.fees.specs.Fees.{outcome_on, total_bytes_after}
use Rattle.fees.specs.Results.{result_in, encode_result}
use Rattle.fees.specs.Takings.{takings_after}
use Rattle.fees.specs.declared.Outcome.{Outcome}
use Rattle.fees.proofs.ResultLaws.{result-codec}
use Rattle.writers.specs.Writers.{header, reply}
use Rattle.book.specs.Runs.{applied, money_committed, takings_committed, reply_to, replies}
use Rattle.book.specs.Memory.{Money, money}

-- ---- commits

pub applied-of : (M : ℕ) (e : Entry) (i : ℕ) (r t : List ℕ) {t' part : List ℕ} (o : Outcome) (at : ℕ) → o ≡ outcome_on M t e → t' ≡ total_bytes_after M t e
    → at ≡ result_place i → part ≡ over (encode_result o) (take (length r - at) (drop at r))
    → money (take at r ++ (part ++ drop (length r - at) (drop at r))) t' ≡ applied M e i (money r t)
unfolding applied
applied-of M e i r t o at p q h w =
    let a = put-part r (encode_result o) at w
    ∙ ap (λ (y : Outcome). put_at at (encode_result y) r) p
    ∙ ap (λ (b : ℕ). put_at b (encode_result (outcome_on M t e)) r) h in
    λ j. money (a j) (q j)

pub commit-none : (M : ℕ) (log : List ℕ) (from : ℕ) (x : Money) → x ≡ money_committed M log from 0 x
unfolding money_committed
commit-none M log from x = refl

pub commit-more : (M : ℕ) (log : List ℕ) (from k : ℕ) (x y z : Money) (e : Entry) → y ≡ money_committed M log from k x
    → e ≡ entry_in log (from + k) → z ≡ applied M e (from + k) y → z ≡ money_committed M log from (k + 1) x
unfolding money_committed
commit-more M log from k x y z e p q w = rw (w, q, p, add-one)

-- the takings after no op, and after one more
pub takings-none : (M : ℕ) (log : List ℕ) (from : ℕ) (x : Money) (t : ℕ) → t ≡ takings_committed M log from 0 x t
unfolding takings_committed
takings-none M log from x t = refl

pub takings-more : (M : ℕ) (log : List ℕ) (from k : ℕ) (x y : Money) (t s r : ℕ) (e : Entry) → y ≡ money_committed M log from k x
    → s ≡ takings_committed M log from k x t → e ≡ entry_in log (from + k) → r ≡ takings_after s (outcome_on M y.totals e) e.cents
    → r ≡ takings_committed M log from (k + 1) x t
unfolding takings_committed
takings-more M log from k x y t s r e p q h g = rw (g, q, h, p, add-one)

pub totals-length : (M : ℕ) (s : List ℕ) (e : Entry) → 8 * M ≤ length s → length (total_bytes_after M s e) ≡ length s
unfolding total_bytes_after
totals-length M s e h =
    let w = big 8 (outcome_on M s e).total in
    split (λ (t : List ℕ). length t ≡ length s) (ltb e.member M) (put_at (8 * e.member) w s) s
    (λ l. put-length (8 * e.member) w s (omega (arith, length-big 8 (outcome_on M s e).total, ltb-true e.member M l)))
    (λ l. refl)

pub applied-lengths : (M : ℕ) (e : Entry) (i : ℕ) (x : Money) → 8 * M ≤ length x.totals → result_place (i + 1) ≤ length x.results
    → (length (applied M e i x).results ≡ length x.results) × (length (applied M e i x).totals ≡ length x.totals)
unfolding applied
applied-lengths M e i x h g =
    let o = outcome_on M x.totals e in
    (put-length (result_place i) (encode_result o) x.results (omega (arith, result-next i, result-codec.width o)), totals-length M x.totals e h)

pub committed-lengths : (M : ℕ) (log : List ℕ) (from k : ℕ) (x : Money) → 8 * M ≤ length x.totals → 9 * (from + k) ≤ length x.results
    → (length (money_committed M log from k x).results ≡ length x.results) × (length (money_committed M log from k x).totals ≡ length x.totals)
unfolding money_committed
committed-lengths M log from zero x h g = (refl, refl)
committed-lengths M log from (suc k) x h g =
    let p = committed-lengths M log from k x h (omega arith) in
    let q = applied-lengths M (entry_in log (from + k)) (from + k) (money_committed M log from k x) (omega (arith, p.1)) (omega (arith, p.0)) in
    (q.0 ∙ p.0, q.1 ∙ p.1)

-- ---- replies

pub reply-length : (v : View) (e : Entry) (o : Outcome) → length (reply_to v e o) ≡ 36
unfolding reply_to reply header big
reply-length v e o = refl

pub replies-length : (v : View) (log results : List ℕ) (from k : ℕ) → length (replies v log results from k) ≡ 36 * k
unfolding replies
replies-length v log results from zero = refl
replies-length v log results from (suc k) =
    let w = reply_to v (entry_in log (from + k)) (result_in results (from + k)) in
    length-append (replies v log results from k) w
    ∙ omega (arith, replies-length v log results from k, reply-length v (entry_in log (from + k)) (result_in results (from + k)))

pub replies-none : (v : View) (log results : List ℕ) (from : ℕ) (a : List ℕ) → a ≡ over (replies v log results from 0) a
unfolding replies
replies-none v log results from a = over-nil a

pub replies-more : (v : View) (log results : List ℕ) (from k : ℕ) (a cur : List ℕ) {part : List ℕ} (e : Entry) (o : Outcome)
    → cur ≡ over (replies v log results from k) a → e ≡ entry_in log (from + k) → o ≡ result_in results (from + k)
    → part ≡ over (reply v e.client e.request o.code o.total) (take (length cur - 36 * k) (drop (36 * k) cur))
    → take (36 * k) cur ++ (part ++ drop (length cur - 36 * k) (drop (36 * k) cur)) ≡ over (replies v log results from (k + 1)) a
unfolding replies reply_to
replies-more v log results from k a cur e o p q r w =
    over-lend (replies v log results from k) (reply_to v e o) a (36 * k) (replies-length v log results from k) p w ∙ rw (q, r, add-one)
