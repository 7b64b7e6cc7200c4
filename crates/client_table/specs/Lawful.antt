-- What a form of row must hold to stand for rows of the model's table: each way of making one gives back what it was made of. Assumes nothing.
use Rattle.std.specs.Prelude.{◌≡◌, true, false, ◌≤◌}
use Rattle.std.proofs.Math.Option.{Option, none, some}
use Rattle.entries.specs.declared.Entry.{Entry}
use Rattle.fees.specs.declared.Outcome.{Outcome}
use Rattle.client_table.specs.Shape.{Shape}

module _ {R : Type 0} (h : Shape R) where
  -- a row in use, of an entry's client and number, with this reply
  pub record HoldsEntry (x : R) (e : Entry) (k : Option Outcome) : Type 0 where
    pub used : h.used x ≡ true
    pub client : h.client x ≡ e.client
    pub request : h.request x ≡ e.request
    pub kept : h.kept x ≡ k

  -- A reply is of an outcome that the fee rules can give, 1 to 6: other codes may mark what a row has besides replies.
  pub record Lawful : Type 0 where
    pub blank : h.used h.blank ≡ false
    pub fresh : (e : Entry) → HoldsEntry (h.fresh e) e none
    pub answered : (e : Entry) (o : Outcome) → 1 ≤ o.code → o.code ≤ 6 → HoldsEntry (h.answered e o) e (some o)
