use Rattle.std.proofs.Common.{rules}
use Rattle.comparing.specs.Fields.{state_line}
use Rattle.comparing.proofs.fields.values.Goals as goal

pub returns : goal.returns
unfolding state_line
returns c = rw (← c.from.ensures, ← c.from-2.ensures, ← c.held_as.ensures, ← c.held_as-2.ensures, ← c.part.ensures, ← c.clients.ensures, ← c.part-2.ensures, ← c.part-3.ensures, ← c.part-4.ensures) (search rules)
