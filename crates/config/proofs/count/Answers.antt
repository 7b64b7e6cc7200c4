-- `config::count` meets its contract: the lowest n digits are the ids below n (`count_low`), and 2 ^ n fits a byte (`one_bit`). Assumes nothing.
use mathlib.Core.Path.{ap, ◌∙◌}
use Prim.Native.Nat.{ℕ, ◌%◌}
use borrow.Author.Rules.{rules}
use lib.Count.{ones}
use Rattle.config.proofs.ReplicaLaws.{one_bit, count_low}
use Rattle.config.proofs.count.Goals as goal

pub returns : goal.returns
returns c = ap (λ (x : ℕ). ones (c.args.set % x)) (one_bit 8 c.args.n (search rules)) ∙ count_low c.args.n c.args.set
