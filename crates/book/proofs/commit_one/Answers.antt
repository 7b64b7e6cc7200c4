-- `book::commit_one` meets its contract. Assumes nothing.
use mathlib.Core.Path.{ap, ◌∙◌}
use Rattle.fees.specs.Takings.{takings_after}
use Rattle.fees.specs.declared.Outcome.{Outcome}
use Rattle.book.proofs.RunLaws.{applied-of}
use Rattle.book.proofs.commit_one.Goals as goal

pub returns : goal.returns
returns c =
    let a = c.args in
    let o = c.apply-o in
    let p = c.result_place-p in
    let w = c.write_result in (
      applied-of a.members a.e a.i a.results.now a.totals.now o.result p.result o.ensures.0 o.ensures.1 p.ensures
          w.ensures,
      c.takings_after.ensures ∙ ap (λ (x : Outcome). takings_after a.takings x a.e.cents) o.ensures.0,
    )
