-- `comparing::words::same_run` meets its contract. Assumes nothing.
use Rattle.std.proofs.Common.{ℕ, List, true≢false, sym, ap, ◌∙◌, eq-eqb, eqb-true}
use Rattle.comparing.specs.Text.{same_bytes}
use Rattle.comparing.proofs.TextLaws.{run_none, run-some}
use Rattle.comparing.proofs.words.same_run.Goals as goal

pub returns-then-is_empty : goal.returns-then-is_empty
returns-then-is_empty c = c.eq.ensures ∙ ap (λ (t : List ℕ). same_bytes c.args.w.now t) (c.as_slice.ensures ∙ sym (run_none c.args.s.now (eqb-true _ 0 (sym c.is_empty.ensures ∙ c.if-is_empty.true))))

pub returns : goal.returns
returns c = c.same_text.ensures ∙ ap (λ (t : List ℕ). same_bytes c.args.w.now t) (sym (run-some c.args.s.now (λ e. true≢false (sym (eq-eqb _ 0 e) ∙ sym c.is_empty.ensures ∙ c.if-is_empty.false))))
