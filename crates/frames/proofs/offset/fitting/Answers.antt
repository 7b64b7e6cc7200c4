-- `frames::offset::fitting` meets its contract. Assumes nothing.
use mathlib.Core.Path.{◌≡◌, sym, ap, ◌∙◌}
use mathlib.Core.Bool.{false}
use Rattle.numbers.specs.Words.{◌and◌}
use Rattle.numbers.specs.Numbers.{within}
use Rattle.frames.specs.FrameRules.{fits}
use Rattle.frames.proofs.offset.fitting.Goals as goal

pub returns-in_err-kind : goal.returns-in_err-kind
unfolding fits ◌and◌
returns-in_err-kind c =
    let outside : within 1 11 c.args.k ≡ false = rw c.in_err-kind.was at c.of_number.ensures in
    rw (c.from_residual.ensures, outside)

pub returns-then-not-fits : goal.returns-then-not-fits
returns-then-not-fits c =
    let named = rw c.in_ok-kind.was at c.of_number.ensures in
    ap (fits c.args.n) (sym named.1) ∙ sym c.fits.ensures ∙ c.if-not-fits.true

pub returns : goal.returns
returns c =
    let named = rw c.in_ok-kind.was at c.of_number.ensures in
    (ap (fits c.args.n) (sym named.1) ∙ sym c.fits.ensures ∙ c.if-not-fits.false, named.1)
