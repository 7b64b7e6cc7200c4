-- `comparing::words::same` meets its contract. Assumes nothing.
use Rattle.std.proofs.Common.{ℕ, List, ap, ◌∙◌}
use Rattle.comparing.specs.Text.{same_bytes, run_text}
use Rattle.comparing.proofs.words.same.Goals as goal

pub returns : goal.returns
returns c = c.same_run.ensures ∙ ap (λ (w : List ℕ). same_bytes w (run_text c.args.s.now)) c.word.ensures
