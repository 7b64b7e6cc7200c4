-- `comparing::words::decoded` meets its contract. Assumes nothing.
use Rattle.std.proofs.Common.{◌≡◌}
use Rattle.numbers.specs.Numbers.{over}
use Rattle.comparing.specs.Text.{bytes_in}
use Rattle.comparing.proofs.words.decoded.Given as goal

abbrev pub invariant-loop-i : goal.invariant-loop-i
invariant-loop-i l = l.b-items ≡ over (bytes_in l.i l.w) l.initial.b-items
