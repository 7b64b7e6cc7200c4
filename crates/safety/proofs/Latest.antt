-- The client table of a safe state has each client's latest request of the log; so it alone says whether one entry more lets the log rise.
-- Assumes nothing.
use Prim.Native.Nat.{ℕ, suc, ◌<◌}
use native.Mathlib.Omega.{arith}
use mathlib.Core.Path.{◌≡◌, refl, ap}
use mathlib.Core.Bool.{true, not}
use mathlib.Core.List.{List, [], ◌∷◌, ◌++◌}
use lib.Dec.{leb}
use lib.ListN.{length, get_or}
use Rattle.numbers.specs.Words.{◌and◌}
use Rattle.numbers.proofs.WordLaws.{and-true}
use Rattle.entries.specs.Rising.{follows, rising}
use Rattle.entries.specs.declared.Entry.{Entry}
use Rattle.config.specs.declared.Setup.{Setup}
use Rattle.model.specs.State.{State}
use Rattle.model.specs.Book.{find}
use Rattle.model.proofs.LatestLaws.{Latest, unbroken, latest-lift}
use Rattle.model.proofs.TableOf.{table-latest}
use Rattle.safety.specs.Demand.{Safe}
use Rattle.safety.proofs.Tables.{none-such}

-- ---- each client's requests once, in rising order: the log rises

follows-all : (a : Entry) (l : List Entry) (d : Entry)
    → ((j : ℕ) → j < length l → a.client ≡ (get_or l j d).client → a.request < (get_or l j d).request) → follows a l ≡ true
unfolding follows
follows-all a [] d f = refl
follows-all a (x ∷ l) d f = and-true _ _ (ap not (unbroken x a (f 0 (omega arith)))) (follows-all a l d (λ j h. f (suc j) (omega arith)))

rising-all : (l : List Entry) (d : Entry)
    → ((i j : ℕ) → i < j → j < length l → (get_or l i d).client ≡ (get_or l j d).client → (get_or l i d).request < (get_or l j d).request)
    → rising l ≡ true
unfolding rising
rising-all [] d f = refl
rising-all (x ∷ l) d f =
    and-true _ _ (follows-all x l d (λ j h. f 0 (suc j) (omega arith) (omega arith)))
    (rising-all l d (λ i j h k. f (suc i) (suc j) (omega arith) (omega arith)))

-- ---- safe states

module _ (u : Setup) (m : State) (s : Safe u m) where
  pub safe-rising : rising m.book.log ≡ true
  safe-rising = rising-all m.book.log none-such (s.once none-such)

  pub safe-latest : Latest m.book.table m.book.log
  safe-latest = rw s.table_is (table-latest m.book.log m.book.results m.book.commit safe-rising)

  -- refusal 6 of a Request and of a Prepare, by the table alone
  pub safe-rises : (e : Entry)
      → rising (m.book.log ++ (e ∷ []))
      ≡ not ((find m.book.table e.client).there and leb e.request (find m.book.table e.client).request)
  safe-rises e = latest-lift e m.book.table m.book.log safe-latest safe-rising
