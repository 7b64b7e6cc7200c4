-- The sentence of document 02, order 6, fixes the client table: two books with the same log, results and commit number that both keep it have the same
-- rows, since of each client the log has a last entry or none.
--     last-or-none    the search of the log
--     fixed           the same table
-- Assumes nothing.
use Prim.Native.Nat.{ℕ, zero, suc, ◌<◌}
use native.Mathlib.Omega.{arith}
use mathlib.Core.Path.{◌≡◌, sym, ◌∙◌}
use mathlib.Core.List.{List, [], ◌∷◌}
use mathlib.Core.Logic.{◌⊎◌, inl, inr, ⊎_elim}
use lib.ListN.{length, get_or}
use Rattle.numbers.proofs.NumberLaws.{eq-or-not}
use Rattle.entries.specs.declared.Entry.{Entry}
use Rattle.fees.specs.declared.Outcome.{Outcome}
use Rattle.model.specs.State.{Book}
use Rattle.model.specs.Book.{find, Rises}
use Rattle.model.proofs.TableOf.{same_rows}
use Rattle.safety.specs.Remembered.{LastAt, NoneOf, Remembers}
use Rattle.safety.proofs.Tables.{none-such}

-- ---- a client's last entry, or none

-- where the last entry of client c stands
pub record LastOf (log : List Entry) (c : ℕ) : Type 0 where
  pub place : ℕ
  pub last : LastAt log place
  pub mine : (d : Entry) → (get_or log place d).client ≡ c

-- an entry before the last one doesn't matter
last-behind : (e : Entry) (es : List Entry) (i : ℕ) → LastAt es i → LastAt (e ∷ es) (suc i)
last-behind e es i l = record { inside = omega (arith, l.inside); none-later = later }
  where
    later : (d : Entry) (j : ℕ) → suc i < j → j < length (e ∷ es) → (get_or (e ∷ es) j d).client ≡ (get_or es i d).client → ⊥
    later d zero h k = absurd (omega arith)
    later d (suc j) h k = l.none-later d j (omega arith) (omega arith)

-- a client that has no later entry
last-first : (e : Entry) (es : List Entry) → NoneOf es e.client → LastAt (e ∷ es) 0
last-first e es n = record { inside = omega arith; none-later = later }
  where
    later : (d : Entry) (j : ℕ) → 0 < j → j < length (e ∷ es) → (get_or (e ∷ es) j d).client ≡ e.client → ⊥
    later d zero h k = absurd (omega arith)
    later d (suc j) h k = n d j (omega arith)

none_more : (e : Entry) (es : List Entry) (c : ℕ) → NoneOf es c → (e.client ≡ c → ⊥) → NoneOf (e ∷ es) c
none_more e es c n m d zero h = m
none_more e es c n m d (suc j) h = n d j (omega arith)

pub last-or-none : (log : List Entry) (c : ℕ) → LastOf log c ⊎ NoneOf log c
last-or-none [] c = inr (λ d j h. absurd (omega arith))
last-or-none (e ∷ es) c =
    ⊎_elim
    (λ l. inl (record { place = suc l.place; last = last-behind e es l.place l.last; mine = l.mine }))
    (λ n. ⊎_elim
    (λ p. inl (record { place = 0; last = last-first e es (rw p n); mine = λ d. p }))
    (λ m. inr (none_more e es c n m))
    (eq-or-not e.client c))
    (last-or-none es c)

-- ---- the table is fixed

module _ (b c : Book) (p : Remembers b) (q : Remembers c) (l : b.log ≡ c.log) (r : b.results ≡ c.results) (k : b.commit ≡ c.commit) where
  found_none : (x : ℕ) → NoneOf b.log x → find b.table x ≡ find c.table x
  found_none x n = p.no-others x n ∙ sym (q.no-others x (rw (← l) n))

  found-at : (d : Entry) (o : Outcome) (i : ℕ) → LastAt b.log i → find b.table (get_or b.log i d).client ≡ find c.table (get_or b.log i d).client
  found-at d o i h = p.clients d o i h ∙ rw (l, r, k) (sym (q.clients d o i (rw (← l) h)))

  found-last : (x : ℕ) → LastOf b.log x → find b.table x ≡ find c.table x
  found-last x y = rw (← y.mine none-such) (found-at none-such nothing y.place y.last)
    where
      nothing : Outcome
      nothing = record { code = 0; total = 0 }

pub fixed : (b c : Book) → Remembers b → Remembers c → Rises b.table → Rises c.table → b.log ≡ c.log → b.results ≡ c.results
    → b.commit ≡ c.commit → b.table ≡ c.table
fixed b c p q s t l r k =
    same_rows b.table c.table s t (λ x. ⊎_elim (found-last b c p q l r k x) (found_none b c p q l r k x) (last-or-none b.log x))
