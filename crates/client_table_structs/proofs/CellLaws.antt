-- What rows are known to keep, whatever rows they are.
--     answered-outcome                         a reply that is told has an outcome of 1 to 6
-- Assumes nothing.
use mathlib.Core.Bool.{true, false}
use mathlib.Core.Option.{none}
use mathlib.Core.Path.{◌≡◌}
use Prim.Native.Nat.{ℕ, ◌≤◌}
use Rattle.std.specs.Prelude.{Ok, Err}
use Rattle.fees.specs.declared.Outcome.{Outcome}
use Rattle.client_table.specs.Found.{Found, latest_of}
use Rattle.client_table.specs.declared.Latest.TheVariants.{Answered}
use Rattle.client_table.proofs.LatestLaws.{Ruled, kept-ruled, reply-ruled}
use Rattle.client_table_structs.specs.Shape.{struct_row, reply_in}
use Rattle.client_table_structs.specs.declared.KeptReply.{KeptReply}
use Rattle.client_table_structs.specs.declared.KeptReply.TheVariants.{Unused, Waiting, Kept}
use Rattle.client_table_structs.specs.declared.Row.{Row}

-- a reply that is told
in-ruled : (k : KeptReply) → Ruled (reply_in k)
unfolding reply_in
in-ruled Unused = tt
in-ruled Waiting = tt
in-ruled (Kept code total) = kept-ruled code total

pub answered-outcome : (f : Found Row) {number : ℕ} {o : Outcome} → latest_of struct_row f ≡ Answered number o → (1 ≤ o.code) × (o.code ≤ 6)
answered-outcome (Ok p) q = reply-ruled true p.1.request (reply_in p.1.reply) (in-ruled p.1.reply) q
answered-outcome (Err p) q = reply-ruled false 0 none tt q
