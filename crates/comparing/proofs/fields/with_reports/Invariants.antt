-- `comparing::fields::with_reports` meets its contract. Assumes nothing.
use Rattle.std.proofs.Common.{◌≡◌}
use Rattle.comparing.specs.Digests.{digest_of}
use Rattle.comparing.specs.Fields.{reports_text}
use Rattle.comparing.proofs.fields.with_reports.Given as goal

abbrev pub invariant-loop-i : goal.invariant-loop-i
invariant-loop-i l = l.h ≡ digest_of (reports_text l.room l.i l.t.rows l.mem)
