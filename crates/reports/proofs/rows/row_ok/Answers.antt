-- `reports::rows::row_ok` meets its contract. Assumes nothing.
use mathlib.Core.Path.{sym, ap, ◌∙◌}
use borrow.Author.Tests.{le-leb, lt-leb}
use Rattle.numbers.proofs.WordLaws.{if-true, if-false}
use Rattle.state.specs.Sound.{is_none, report_ok, row_ok}
use Rattle.reports.proofs.rows.row_ok.Goals as goal

pub returns-then-n-i : goal.returns-then-n-i
unfolding row_ok
returns-then-n-i c =
    let a = c.args in
    let d = c.report_at in (
      c.is_none.ensures ∙ ap is_none d.ensures.0 ∙ sym (if-true _ _ _ (le-leb a.n a.i c.if-n-i.true)),
      d.ensures.1,
    )

pub returns : goal.returns
unfolding row_ok
returns c =
    let a = c.args in
    let d = c.report_at-2 in (
      c.report_ok.ensures ∙ ap (report_ok a.room) d.ensures.0
          ∙ sym (if-false _ _ _ (lt-leb a.n a.i c.if-n-i.false)),
      d.ensures.1,
    )
