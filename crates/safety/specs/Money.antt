-- What demand 3 says of money: the fee rules over a list of entries, from given totals. Assumes nothing.
use Rattle.std.specs.Prelude.{ℕ, ◌+◌, List, [], ◌∷◌, eqb}
use Rattle.numbers.specs.Words.{when◌then◌else◌}
use Rattle.entries.specs.declared.Entry.{Entry}
use Rattle.model.specs.Book.{outcome, totals_after}

-- the fee that the rules took for an entry (outcome 1)
unfoldable pub fee_taken : List ℕ → Entry → ℕ
fee_taken ts e = when eqb (outcome ts e).code 1 then e.cents else 0

-- the refund that the rules paid for it (outcome 2)
unfoldable pub refund_paid : List ℕ → Entry → ℕ
refund_paid ts e = when eqb (outcome ts e).code 2 then e.cents else 0

-- fees taken from member k, over the entries in order
unfoldable pub fees_of : ℕ → List ℕ → List Entry → ℕ
fees_of k ts [] = 0
fees_of k ts (e ∷ es) = (when eqb k e.member then fee_taken ts e else 0) + fees_of k (totals_after ts e) es

-- refunds paid to member k
unfoldable pub refunds_of : ℕ → List ℕ → List Entry → ℕ
refunds_of k ts [] = 0
refunds_of k ts (e ∷ es) = (when eqb k e.member then refund_paid ts e else 0) + refunds_of k (totals_after ts e) es

-- fees taken from all members
unfoldable pub all_fees : List ℕ → List Entry → ℕ
all_fees ts [] = 0
all_fees ts (e ∷ es) = fee_taken ts e + all_fees (totals_after ts e) es

-- refunds paid to all members
unfoldable pub all_refunds : List ℕ → List Entry → ℕ
all_refunds ts [] = 0
all_refunds ts (e ∷ es) = refund_paid ts e + all_refunds (totals_after ts e) es

-- the sum of all totals
unfoldable pub sum : List ℕ → ℕ
sum [] = 0
sum (t ∷ ts) = t + sum ts
