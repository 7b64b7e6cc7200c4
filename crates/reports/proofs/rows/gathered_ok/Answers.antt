-- `reports::rows::gathered_ok` meets its contract: 2 ^ n fits a byte (`one_bit`). Assumes nothing.
use native.Mathlib.Omega.{arith}
use mathlib.Core.Path.{sym, ◌∙◌}
use Rattle.state.specs.Sound.{gathered_ok}
use Rattle.numbers.proofs.WordLaws.{if-true, if-false}
use borrow.Author.Tests.{lt-ltb, le-ltb}
use Rattle.config.proofs.ReplicaLaws.{one_bit}
use Rattle.reports.proofs.rows.gathered_ok.Goals as goal

pub returns-then-u-starts : goal.returns-then-u-starts
unfolding gathered_ok
returns-then-u-starts c = sym (if-false _ _ _ (le-ltb _ _ (rw (one_bit 8 c.args.u.n (omega (arith, c.requires))) at c.if-u-starts.true)))

pub returns : goal.returns
unfolding gathered_ok
returns c = c.reports_ok.ensures ∙ sym (if-true _ _ _ (lt-ltb _ _ (rw (one_bit 8 c.args.u.n (omega (arith, c.requires))) at c.if-u-starts.false)))
