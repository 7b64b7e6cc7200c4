-- `book::rises_after` meets its contract. Assumes nothing.
use mathlib.Core.Path.{sym, ◌∙◌}
use Rattle.book.proofs.LogLaws.{after-not, after-rising}
use Rattle.book.proofs.rises_after.Goals as goal

pub returns-then-not-is_rising : goal.returns-then-not-is_rising
returns-then-not-is_rising c =
    let r = c.is_rising in
    sym (after-not _ _ (sym r.ensures ∙ c.if-not-is_rising.true))

pub returns : goal.returns
returns c =
    let r = c.is_rising in
    c.none_breaks.ensures ∙ sym (after-rising _ _ (sym r.ensures ∙ c.if-not-is_rising.false))
