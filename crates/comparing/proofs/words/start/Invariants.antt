-- `comparing::words::start` meets its contract. Assumes nothing.
use Rattle.std.proofs.Common.{◌≡◌, ◌≤◌, length}
use Rattle.comparing.specs.Text.{word_start}
use Rattle.comparing.proofs.words.start.Given as goal

abbrev pub invariant-loop : goal.invariant-loop
invariant-loop l = (l.at ≡ word_start l.counter l.s) × (l.at ≤ length l.s)
