-- `comparing::fields::with_held` meets its contract. Assumes nothing.
use Rattle.std.proofs.Common.{ℕ, ap, ◌∙◌}
use Rattle.config.specs.Replicas.{with_member}
use Rattle.comparing.proofs.FieldLaws.{held_one, held_none}
use Rattle.comparing.proofs.fields.with_held.Goals as goal

pub returns-then-d : goal.returns-then-d
returns-then-d c = let a = c.args in c.insert.ensures ∙ ap (λ (x : ℕ). with_member x a.i) c.requires.1 ∙ held_one a.t.rows a.i c.report_at-d.result c.report_at-d.ensures.0 c.if-d.true

pub returns : goal.returns
returns c = let a = c.args in c.requires.1 ∙ held_none a.t.rows a.i c.report_at-d.result c.report_at-d.ensures.0 c.if-d.false
