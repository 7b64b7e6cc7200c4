-- `comparing::fields::clients` meets its contract. Assumes nothing.
use Rattle.std.proofs.Common.{◌≡◌}
use Rattle.comparing.specs.Digests.{digest_of}
use Rattle.comparing.specs.Fields.{table_text}
use Rattle.comparing.proofs.fields.clients.Given as goal

abbrev pub invariant-loop-i : goal.invariant-loop-i
invariant-loop-i l = l.h ≡ digest_of (table_text l.i l.mem)
