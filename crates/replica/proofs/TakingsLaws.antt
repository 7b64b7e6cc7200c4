-- The takings that are answered, for memory that calls produced.
--     takings-promised     from `exact` to `meaning`
--     full-addition        fees taken less refunds paid
-- Assumes nothing.
use mathlib.Core.Path.{refl, ◌≡◌, ap, ◌∙◌}
use mathlib.Core.List.{List}
use Prim.Native.Nat.{ℕ, ◌+◌}
use lib.ListN.{length}
use Rattle.numbers.proofs.WordLaws.{if-true}
use Rattle.entries.specs.declared.Entry.{Entry}
use Rattle.state.specs.declared.Replica.{Replica}
use Rattle.layout.specs.Layout.{book_of, model_of}
use Rattle.safety.specs.Money.{sum, all_refunds}
use Rattle.safety.specs.Demand.{Safe, zeros}
use Rattle.outside.specs.Takings.{takings_call}
use Rattle.std.specs.Prelude.{Result, Ok, Err}
use Rattle.frames.specs.declared.Refusal.{Refusal}
use Rattle.outside.proofs.SoundLaws.{sound-is, whole-alone}
use Rattle.replica.specs.Lent.{Lent}
use Rattle.replica.specs.Meaning.{Kept, meaning_of}
use Rattle.replica.specs.Promise.{TakingsPromise}
use Rattle.replica.specs.Demands.{FullAddition}
use Rattle.replica.proofs.KeptLaws.{reached-safe}

module _ (s : Replica) (x : Lent) (applied : List Entry) (k : Kept s x applied) where
  safe : Safe s.setup (meaning_of s x applied)
  safe = reached-safe s.setup (meaning_of s x applied) k.reached

  -- the sum that the state keeps
  kept-sum : s.takings ≡ sum (meaning_of s x applied).book.totals
  unfolding model_of book_of
  kept-sum = safe.takings-are

  call-adds : takings_call s ≡ Ok (sum (meaning_of s x applied).book.totals)
  unfolding takings_call
  call-adds =
      let w = sound-is s x.core (length x.table) k.sound in
      if-true _ _ _ (whole-alone s x.core (length x.table) w) ∙ ap Ok kept-sum

  pub full-addition : (r : Result ℕ Refusal) → TakingsPromise s r → FullAddition s x applied r
  unfolding model_of book_of
  full-addition r p =
      record {
        cents = sum (meaning_of s x applied).book.totals;
        answered = p.meaning x applied k;
        added = refl;
        balanced = safe.sum-of-totals;
      }

pub takings-promised : (s : Replica) (r : Result ℕ Refusal) → r ≡ takings_call s → TakingsPromise s r
takings-promised s r e = record { exact = e; meaning = λ x applied k. e ∙ call-adds s x applied k }
