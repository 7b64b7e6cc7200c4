-- A row of the client table, in whichever form it is held: bytes, or a struct. Assumes nothing.
use Rattle.std.specs.Prelude.{Bool, List, ℕ, get_or}
use Rattle.std.proofs.Math.Option.{Option}
use Rattle.entries.specs.declared.Entry.{Entry}
use Rattle.fees.specs.declared.Outcome.{Outcome}

-- What the table asks of a form of row: is it in use; whose latest request it holds, and the reply kept for it; an unused row; the row of an
-- entry that has no reply yet; with its reply.
pub record Shape (R : Type 0) : Type 0 where
  pub used : R → Bool
  pub client : R → ℕ
  pub request : R → ℕ
  pub kept : R → Option Outcome
  pub blank : R
  pub fresh : Entry → R
  pub answered : Entry → Outcome → R

module _ {R : Type 0} (h : Shape R) where
  -- the row at a place; past the end an unused one
  abbrev pub row_at : List R → ℕ → R
  row_at xs i = get_or xs i h.blank
