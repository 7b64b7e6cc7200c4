-- `writers::frame_len` meets its contract. Assumes nothing.
use Rattle.writers.specs.declared.Size.{Size}
use mathlib.Core.Path.{ap}
use Rattle.writers.proofs.WriterLaws.{fields-small}
use Rattle.writers.specs.Writers.{length_of}
use native.Mathlib.Omega.{arith}
use Rattle.writers.proofs.frame_len.Goals as goal

pub overflow_add-result : goal.overflow_add-result
overflow_add-result c = omega (arith, fields-small c.args.m, ap (λ (z : Size). z.fields) c.frame_size-s.ensures)

pub returns : goal.returns
unfolding length_of
returns c = rw (← c.frame_size-s.ensures)
