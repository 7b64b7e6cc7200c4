-- `state_bytes::look_over` meets its contract. Assumes nothing.
use mathlib.Core.Bool.{not}
use mathlib.Core.Path.{ap}
use mathlib.Core.Path.{sym, ◌∙◌}
use native.Mathlib.Omega.{arith}
use Rattle.state_bytes.proofs.ReadLaws.{front_long}
use Rattle.state_bytes.proofs.QuietLaws.{look_none, look-quiet, look-bad, look-reports}
use Rattle.state_bytes.proofs.look_over.Goals as goal

pub returns-then-not-front_ok : goal.returns-then-not-front_ok
returns-then-not-front_ok c = look_none c.args.run.now c.front_ok.ensures (ap not c.if-not-front_ok.true)

pub is_quiet-requires : goal.is_quiet-requires
is_quiet-requires c = omega (arith, front_long _ (sym c.front_ok.ensures ∙ c.if-not-front_ok.false))

pub returns-then-is_quiet : goal.returns-then-is_quiet
returns-then-is_quiet c = look-quiet c.args.run.now c.front_ok.ensures (ap not c.if-not-front_ok.false) c.is_quiet.ensures c.if-is_quiet.true

pub reports_ok-requires : goal.reports_ok-requires
reports_ok-requires c = omega (arith, front_long _ (sym c.front_ok.ensures ∙ c.if-not-front_ok.false))

pub returns-then-not-reports_ok : goal.returns-then-not-reports_ok
returns-then-not-reports_ok c = look-bad c.args.run.now c.front_ok.ensures (ap not c.if-not-front_ok.false) c.is_quiet.ensures c.if-is_quiet.false c.reports_ok.ensures (ap not c.if-not-reports_ok.true)

pub returns : goal.returns
returns c = look-reports c.args.run.now c.front_ok.ensures (ap not c.if-not-front_ok.false) c.is_quiet.ensures c.if-is_quiet.false c.reports_ok.ensures (ap not c.if-not-reports_ok.false)
