-- `config::insert` meets its contract: `|` with one bit is `with_member` (`or-with`), and 2 ^ id fits a byte (`one_bit`).
-- Assumes nothing.
use mathlib.Core.Path.{ap, ◌∙◌}
use Prim.Native.Nat.{ℕ}
use borrow.Author.Rules.{rules}
use lib.Bits.{bit_or}
use Rattle.config.proofs.ReplicaLaws.{one_bit, or-with}
use Rattle.config.proofs.insert.Goals as goal

pub returns : goal.returns
returns c = ap (λ (x : ℕ). bit_or c.args.set x) (one_bit 8 c.args.id (search rules)) ∙ or-with c.args.set c.args.id
