-- Laws of the book.
--     outcome-code                                   an outcome is 1 to 6
--     through-, answers-length, -append              the fee rules over a list of entries
--     takings-append                                 and the takings
--     commit_all-log, -commit, -results, -totals, -takings, -applied   what a commit of entries leaves in each field
--     commit_all-end, append_all-end                   one entry more: for a loop that goes on at the end
--     replies-end                                    likewise for the replies
--     length-due                                     how many entries a commit puts through the rules
--     append_all-log, append_all-length, append_all-rest    an append of entries
--     agree-take, agree-le                           what refusal 7's look over the committed entries says
-- Assumes nothing.
use Prim.Native.Nat.{ℕ, zero, suc, ◌+◌, ◌-◌, ◌≤◌}
use native.Mathlib.Nat.{add-zero}
use native.Mathlib.Omega.{arith}
use mathlib.Core.Path.{◌≡◌, refl, sym, ap, ◌∙◌}
use mathlib.Core.Bool.{true}
use mathlib.Core.List.{List, [], ◌∷◌, ◌++◌, append_assoc, append-nil}
use lib.ListN.{length, take, length-append, length-take, length-drop, length-set}
use borrow.Author.Tests.{eqb-true}
use Rattle.fees.specs.Takings.{takings_after}
use Rattle.numbers.proofs.WordLaws.{split, and_left, and_right}
use Rattle.entries.specs.declared.Entry.{Entry}
use Rattle.entries.specs.declared.Operation.{Operation}
use Rattle.entries.specs.declared.Operation.TheVariants.{Fee, Refund, Ask}
use Rattle.fees.specs.Fees.{rule}
use Rattle.fees.specs.declared.Outcome.{Outcome}
use Rattle.model.specs.State.{Book}
use Rattle.model.specs.Book.{outcome, totals_after, through, results_of, takings_through, append, append_all, commit_one, commit_all, due_entries, replies_of, same_entry, agree}

-- the numbers of outcomes
abbrev Coded : Outcome → Type 0
Coded o = (1 ≤ o.code) × (o.code ≤ 6)

rule-code : (t cents : ℕ) (op : Operation) → Coded (rule t op cents)
unfolding rule
rule-code t cents Fee = split Coded _ _ _ (λ _. omega arith) (λ _. omega arith)
rule-code t cents Refund = split Coded _ _ _ (λ _. omega arith) (λ _. omega arith)
rule-code t cents Ask = omega arith

pub outcome-code : (ts : List ℕ) (e : Entry) → (1 ≤ (outcome ts e).code) × ((outcome ts e).code ≤ 6)
unfolding outcome
outcome-code ts e = split Coded _ _ _ (λ _. rule-code _ e.cents _) (λ _. omega arith)

-- how many totals and answers there are
pub after-length : (ts : List ℕ) (e : Entry) → length (totals_after ts e) ≡ length ts
unfolding totals_after
after-length ts e = split (λ (l : List ℕ). length l ≡ length ts) _ _ _ (λ _. length-set ts e.member _) (λ _. refl)

pub through-length : (ts : List ℕ) (es : List Entry) → length (through ts es) ≡ length ts
unfolding through
through-length ts [] = refl
through-length ts (e ∷ es) = through-length (totals_after ts e) es ∙ after-length ts e

pub answers-length : (ts : List ℕ) (es : List Entry) → length (results_of ts es) ≡ length es
unfolding results_of
answers-length ts [] = refl
answers-length ts (e ∷ es) = ap suc (answers-length (totals_after ts e) es)

-- entries after entries
pub through-append : (ts : List ℕ) (xs ys : List Entry) → through ts (xs ++ ys) ≡ through (through ts xs) ys
unfolding through
through-append ts [] ys = refl
through-append ts (x ∷ xs) ys = through-append (totals_after ts x) xs ys

pub answers-append : (ts : List ℕ) (xs ys : List Entry) → results_of ts (xs ++ ys) ≡ results_of ts xs ++ results_of (through ts xs) ys
unfolding through results_of
answers-append ts [] ys = refl
answers-append ts (x ∷ xs) ys = ap (◌∷◌ (outcome ts x)) (answers-append (totals_after ts x) xs ys)

pub takings-append : (t : ℕ) (ts : List ℕ) (xs ys : List Entry) → takings_through t ts (xs ++ ys) ≡ takings_through (takings_through t ts xs) (through ts xs) ys
unfolding through takings_through
takings-append t ts [] ys = refl
takings-append t ts (x ∷ xs) ys = takings-append (takings_after t (outcome ts x) x.cents) (totals_after ts x) xs ys

-- a commit of entries, field by field
pub commit_all-log : (b : Book) (es : List Entry) → (commit_all b es).log ≡ b.log
unfolding commit_all commit_one
commit_all-log b [] = refl
commit_all-log b (e ∷ es) = commit_all-log (commit_one b e) es

pub commit_all-commit : (b : Book) (es : List Entry) → (commit_all b es).commit ≡ b.commit + length es
unfolding commit_all commit_one
commit_all-commit b [] = sym (add-zero b.commit)
commit_all-commit b (e ∷ es) = omega (arith, commit_all-commit (commit_one b e) es)

pub commit_all-applied : (b : Book) (es : List Entry) → (commit_all b es).applied ≡ b.applied ++ es
unfolding commit_all commit_one
commit_all-applied b [] = sym (append-nil b.applied)
commit_all-applied b (e ∷ es) = commit_all-applied (commit_one b e) es ∙ append_assoc b.applied (e ∷ []) es

pub commit_all-totals : (b : Book) (es : List Entry) → (commit_all b es).totals ≡ through b.totals es
unfolding commit_all commit_one through
commit_all-totals b [] = refl
commit_all-totals b (e ∷ es) = commit_all-totals (commit_one b e) es

pub commit_all-takings : (b : Book) (es : List Entry) → (commit_all b es).takings ≡ takings_through b.takings b.totals es
unfolding commit_all commit_one takings_through
commit_all-takings b [] = refl
commit_all-takings b (e ∷ es) = commit_all-takings (commit_one b e) es

pub commit_all-results : (b : Book) (es : List Entry) → (commit_all b es).results ≡ b.results ++ results_of b.totals es
unfolding commit_all commit_one results_of
commit_all-results b [] = sym (append-nil b.results)
commit_all-results b (e ∷ es) =
    commit_all-results (commit_one b e) es ∙ append_assoc b.results (outcome b.totals e ∷ []) _

-- one entry more
pub commit_all-end : (b : Book) (es : List Entry) (e : Entry) → commit_all b (es ++ (e ∷ [])) ≡ commit_one (commit_all b es) e
unfolding commit_all
commit_all-end b [] e = refl
commit_all-end b (x ∷ es) e = commit_all-end (commit_one b x) es e

pub append_all-end : (b : Book) (es : List Entry) (e : Entry) → append_all b (es ++ (e ∷ [])) ≡ append (append_all b es) e
unfolding append_all
append_all-end b [] e = refl
append_all-end b (x ∷ es) e = append_all-end (append b x) es e

pub replies-end : (v : ℕ) (es : List Entry) (os : List Outcome) (e : Entry) (o : Outcome) → length es ≡ length os
    → replies_of v (es ++ (e ∷ [])) (os ++ (o ∷ [])) ≡ replies_of v es os ++ replies_of v (e ∷ []) (o ∷ [])
unfolding replies_of
replies-end v [] [] e o h = refl
replies-end v [] (p ∷ os) e o h = absurd (omega arith)
replies-end v (x ∷ es) [] e o h = absurd (omega arith)
replies-end v (x ∷ es) (p ∷ os) e o h =
    ap (◌∷◌ (record { view = v; client = x.client; request = x.request; result = p })) (replies-end v es os e o (omega arith))

pub length-due : (b : Book) (k : ℕ) → k ≤ length b.log → length (due_entries b k) ≡ k - b.commit
unfolding due_entries
length-due b k h = simp (length-take, length-drop) (omega arith)

-- an append of entries
pub append_all-log : (b : Book) (es : List Entry) → (append_all b es).log ≡ b.log ++ es
unfolding append_all append
append_all-log b [] = sym (append-nil b.log)
append_all-log b (e ∷ es) = append_all-log (append b e) es ∙ append_assoc b.log (e ∷ []) es

pub append_all-length : (b : Book) (es : List Entry) → length (append_all b es).log ≡ length b.log + length es
append_all-length b es = rw (append_all-log, length-append)

-- the fields that an append leaves
pub record Rest (b c : Book) : Type 0 where
  pub commit : c.commit ≡ b.commit
  pub totals : c.totals ≡ b.totals
  pub takings : c.takings ≡ b.takings
  pub applied : c.applied ≡ b.applied
  pub results : c.results ≡ b.results

pub append_all-rest : (b : Book) (es : List Entry) → Rest b (append_all b es)
unfolding append_all append
append_all-rest b [] = record { commit = refl; totals = refl; takings = refl; applied = refl; results = refl }
append_all-rest b (e ∷ es) =
    let x : Rest (append b e) (append_all (append b e) es) = append_all-rest (append b e) es in
    record { commit = x.commit; totals = x.totals; takings = x.takings; applied = x.applied; results = x.results }

-- agreement of logs
same-eq : (a b : Entry) → same_entry a b ≡ true → a ≡ b
unfolding same_entry
same-eq a b p =
    let fields : (a.client ≡ b.client) × (a.request ≡ b.request) × (a.operation ≡ b.operation) × (a.member ≡ b.member) × (a.cents ≡ b.cents) =
    search (eqb-true, and_left, and_right) in
    λ j. record { client = fields.0 j; request = fields.1 j; operation = fields.2 j; member = fields.3 j; cents = fields.4 j }

pub agree-take : (n : ℕ) (xs ys : List Entry) → agree n xs ys ≡ true → take n xs ≡ take n ys
unfolding agree
agree-take zero xs ys p = refl
agree-take (suc n) [] [] p = refl
agree-take (suc n) [] (y ∷ ys) p = cc
agree-take (suc n) (x ∷ xs) [] p = cc
agree-take (suc n) (x ∷ xs) (y ∷ ys) p = cc (same-eq x y (and_left _ _ p), agree-take n xs ys (and_right _ _ p))

pub agree-le : (n : ℕ) (xs ys : List Entry) → agree n xs ys ≡ true → n ≤ length xs
unfolding agree
agree-le zero xs ys p = omega arith
agree-le (suc n) [] ys p = let z : ◌≡◌ {A = ℕ} 0 1 = cc in omega arith
agree-le (suc n) (x ∷ xs) [] p = let z : ◌≡◌ {A = ℕ} 0 1 = cc in omega arith
agree-le (suc n) (x ∷ xs) (y ∷ ys) p = omega (arith, agree-le n xs ys (and_right _ _ p))
