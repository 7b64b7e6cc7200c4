-- What is told of a client's latest request: a reply that is kept has an outcome of the fee rules. Assumes nothing.
use Rattle.std.specs.Prelude.{◌≡◌, ℕ, ◌≤◌}
use Rattle.fees.specs.declared.Outcome.{Outcome}
use Rattle.client_table.specs.declared.Latest.{Latest}
use Rattle.client_table.specs.declared.Latest.TheVariants.{Answered}

-- 1 to 6
abbrev pub ToldOk : Latest → Type 0
ToldOk latest = (request : ℕ) (o : Outcome) → latest ≡ Answered request o → (1 ≤ o.code) × (o.code ≤ 6)
