-- What every book that a call can reach has, and that append, commit and install keep it. Assumes nothing.
use Prim.Native.Nat.{ℕ, ◌+◌, ◌≤◌, ◌<◌}
use native.Mathlib.Nat.{le_refl}
use native.Mathlib.Omega.{arith}
use mathlib.Core.Path.{◌≡◌, refl, sym, ap, ◌∙◌}
use mathlib.Core.Bool.{true}
use mathlib.Core.List.{List, [], ◌∷◌, ◌++◌, append_assoc, append-nil}
use lib.ListN.{length, take, length-append, length-take, length-drop}
use lib.Seq.{take-append-le, take-add, take_at, length-take-le}
use Rattle.entries.specs.Rising.{rising}
use Rattle.entries.specs.declared.Entry.{Entry}
use Rattle.config.specs.declared.Setup.{Setup}
use Rattle.fees.specs.declared.Outcome.{Outcome}
use Rattle.model.specs.State.{Book}
use Rattle.model.specs.Book.{through, results_of, takings_through, append, append_all, commit_up_to, due_entries, table_of, install, agree}
use Rattle.model.proofs.BookLaws.{through-append, answers-length, answers-append, takings-append}
use Rattle.model.proofs.BookLaws.{commit_all-log, commit_all-commit, commit_all-applied, commit_all-totals, commit_all-takings, commit_all-results}
use Rattle.model.proofs.BookLaws.{agree-take, agree-le, length-due, append_all-log, append_all-length, Rest, append_all-rest}
use Rattle.model.proofs.TableOf.{table-appends, table-commit-to}
use Rattle.safety.specs.Demand.{zeros}

-- the invariant
pub record BookInv (u : Setup) (b : Book) : Type 0 where
  pub applied-is : b.applied ≡ take b.commit b.log
  pub commit-le : b.commit ≤ length b.log
  pub log-fits : length b.log ≤ u.room
  pub log-rises : rising b.log ≡ true
  pub table_is : b.table ≡ table_of b.log b.results b.commit
  pub totals-are : b.totals ≡ through (zeros u) b.applied
  pub takings-are : b.takings ≡ takings_through 0 (zeros u) b.applied
  pub results-are : b.results ≡ results_of (zeros u) b.applied

-- what a book that followed has besides
pub record Grown (u : Setup) (b b' : Book) : Type 0 where
  pub inv : BookInv u b'
  pub commit-up : b.commit ≤ b'.commit
  pub more : List Entry
  pub grows : b'.applied ≡ b.applied ++ more

abbrev pub Ok : Setup → Book → Book → Type 0
Ok u b b' = BookInv u b → Grown u b b'

-- there is a result for each committed entry
pub results-counted : (u : Setup) (b : Book) → BookInv u b → length b.results ≡ b.commit
results-counted u b i =
    ap (λ l. length l) i.results-are ∙ answers-length (zeros u) b.applied ∙ ap (λ l. length l) i.applied-is
    ∙ length-take-le b.commit b.log i.commit-le

module _ (u : Setup) (b : Book) where
  pub same_ok : Ok u b b
  same_ok i = record { inv = i; commit-up = le_refl _; more = []; grows = sym (append-nil b.applied) }

  pub append-ok : (e : Entry) → length b.log < u.room → rising (b.log ++ (e ∷ [])) ≡ true → Ok u b (append b e)
  unfolding append append_all
  append-ok e h r i =
      record {
        inv =
            record {
              applied-is = i.applied-is ∙ sym (take-append-le _ _ _ i.commit-le);
              commit-le = simp length-append (omega arith);
              log-fits = simp length-append (omega arith);
              log-rises = r;
              table_is = table-appends b (e ∷ []) i.commit-le i.table_is;
              totals-are = i.totals-are;
              takings-are = i.takings-are;
              results-are = i.results-are;
            };
        commit-up = le_refl _;
        more = [];
        grows = sym (append-nil b.applied);
      }

  pub commit-ok : (k : ℕ) → k ≤ length b.log → Ok u b (commit_up_to b k)
  unfolding commit_up_to due_entries
  commit-ok k h i =
      record {
        inv =
            record {
              applied-is = simp (commit_all-applied, commit_all-commit, commit_all-log, length-due, take-add) (cc i.applied-is);
              commit-le = simp (commit_all-commit, commit_all-log, length-take, length-drop) (omega arith);
              log-fits = rw commit_all-log i.log-fits;
              log-rises = rw commit_all-log i.log-rises;
              table_is = table-commit-to b k i.log-rises (results-counted u b i) i.table_is;
              totals-are = simp (commit_all-applied, commit_all-totals, through-append) (ap (λ (t : List ℕ). through t (due_entries b k)) i.totals-are);
              takings-are =
                  commit_all-takings b (due_entries b k)
                  ∙ ap (λ (n : ℕ). takings_through n b.totals (due_entries b k)) i.takings-are
                  ∙ ap (λ (t : List ℕ). takings_through (takings_through 0 (zeros u) b.applied) t (due_entries b k)) i.totals-are
                  ∙ sym (takings-append 0 (zeros u) b.applied (due_entries b k))
                  ∙ ap (takings_through 0 (zeros u)) (sym (commit_all-applied b (due_entries b k)));
              results-are =
                  commit_all-results b (due_entries b k)
                  ∙ ap (λ (l : List Outcome). l ++ results_of b.totals (due_entries b k)) i.results-are
                  ∙ ap (λ (t : List ℕ). results_of (zeros u) b.applied ++ results_of t (due_entries b k)) i.totals-are
                  ∙ sym (answers-append (zeros u) b.applied (due_entries b k))
                  ∙ ap (results_of (zeros u)) (sym (commit_all-applied b (due_entries b k)));
            };
        commit-up = simp commit_all-commit (omega arith);
        more = due_entries b k;
        grows = commit_all-applied b (due_entries b k);
      }

  pub install-ok : (log : List Entry) → length log ≤ u.room → rising log ≡ true → b.commit ≤ length log → take b.commit log ≡ take b.commit b.log
      → Ok u b (install b log)
  unfolding install
  install-ok log h r le t i =
      record {
        inv =
            record {
              applied-is = i.applied-is ∙ sym t;
              commit-le = le;
              log-fits = h;
              log-rises = r;
              table_is = refl;
              totals-are = i.totals-are;
              takings-are = i.takings-are;
              results-are = i.results-are;
            };
        commit-up = le_refl _;
        more = [];
        grows = sym (append-nil b.applied);
      }

  pub agreed-ok : (log : List Entry) → length log ≤ u.room → rising log ≡ true → agree b.commit log b.log ≡ true → Ok u b (install b log)
  agreed-ok log h r a = install-ok log h r (agree-le _ _ _ a) (agree-take _ _ _ a)

-- an append of entries
pub append_all-ok : (u : Setup) (b : Book) (es : List Entry) → length b.log + length es ≤ u.room → rising (b.log ++ es) ≡ true → Ok u b (append_all b es)
append_all-ok u b es h r i =
    let x : Rest b (append_all b es) = append_all-rest b es in
    record {
      inv =
          record {
            applied-is = simp (append_all-log, x.commit, x.applied, take-append-le _ b.log es i.commit-le) i.applied-is;
            commit-le = omega (arith, append_all-length b es, x.commit);
            log-fits = omega (arith, append_all-length b es);
            log-rises = rw append_all-log r;
            table_is = table-appends b es i.commit-le i.table_is;
            totals-are = simp (x.totals, x.applied) i.totals-are;
            takings-are = simp (x.takings, x.applied) i.takings-are;
            results-are = simp (x.results, x.applied) i.results-are;
          };
      commit-up = omega (arith, x.commit);
      more = [];
      grows = x.applied ∙ sym (append-nil b.applied);
    }

-- one change after another
pub then_ok : (u : Setup) (a b c : Book) → Ok u a b → Ok u b c → Ok u a c
then_ok u a b c f g i =
    let x : Grown u a b = f i in
    let y : Grown u b c = g x.inv in
    record {
      inv = y.inv;
      commit-up = omega arith;
      more = x.more ++ y.more;
      grows = y.grows ∙ ap (λ (l : List Entry). l ++ y.more) x.grows ∙ append_assoc a.applied x.more y.more;
    }

-- what a NewState does: entries at the end, or in place of what is not committed; then a commit
pub gap-ok : (u : Setup) (b : Book) (es : List Entry) (c : ℕ) → length b.log + length es ≤ u.room → rising (b.log ++ es) ≡ true
    → c ≤ length b.log + length es → Ok u b (commit_up_to (append_all b es) c)
gap-ok u b es c h r k = then_ok u _ _ _ (append_all-ok u b es h r) (commit-ok u (append_all b es) c (omega (arith, append_all-length b es)))

pub join-ok : (u : Setup) (b : Book) (es : List Entry) (c : ℕ) → b.commit + length es ≤ u.room → rising (take b.commit b.log ++ es) ≡ true
    → c ≤ b.commit + length es → Ok u b (commit_up_to (install b (take b.commit b.log ++ es)) c)
unfolding install
join-ok u b es c h r k i =
    let kept : length (take b.commit b.log) ≡ b.commit = length-take-le _ _ i.commit-le in
    let all : length (take b.commit b.log ++ es) ≡ b.commit + length es = rw (length-append, kept) in
    then_ok u _ _ _
    (install-ok u b (take b.commit b.log ++ es) (omega arith) r (omega arith) (take_at _ es _ kept))
    (commit-ok u (install b (take b.commit b.log ++ es)) c (omega arith))
    i
