-- `comparing::fields::held_as` meets its contract. Assumes nothing.
use Rattle.std.proofs.Common.{ℕ, ap, ◌∙◌}
use Rattle.comparing.specs.Fields.{held_set}
use Rattle.comparing.proofs.FieldLaws.{held-none, held-some}
use Rattle.comparing.proofs.fields.held_as.Goals as goal

pub returns-then-is_recovering-responses : goal.returns-then-is_recovering-responses
returns-then-is_recovering-responses c = held-none c.args.s c.is_recovering.result c.args.responses c.is_recovering.ensures c.if-is_recovering-responses.true

pub returns : goal.returns
returns c = let s = c.args.s in c.from.ensures ∙ c.held.ensures ∙ ap (λ (n : ℕ). held_set n s.reports.rows) c.min.ensures ∙ held-some s c.is_recovering.result c.args.responses c.is_recovering.ensures c.if-is_recovering-responses.false
