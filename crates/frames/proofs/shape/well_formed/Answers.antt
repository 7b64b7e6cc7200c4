-- `frames::shape::well_formed` meets its contract. Assumes nothing.
use mathlib.Core.Path.{◌≡◌, ◌∙◌, sym, ap}
use mathlib.Core.Bool.{false}
use native.Mathlib.Omega.{arith}
use Rattle.numbers.specs.Words.{◌and◌}
use Rattle.numbers.specs.Numbers.{within}
use Rattle.frames.specs.Kinds.{kind_of, body_ok, well_formed}
use Rattle.frames.proofs.KindLaws.{head-long}
use Rattle.frames.proofs.shape.well_formed.Goals as goal

pub returns-then-not-head_ok : goal.returns-then-not-head_ok
unfolding well_formed ◌and◌
returns-then-not-head_ok c = rw (← c.head_ok.ensures, c.if-not-head_ok.true)

pub kind_of-requires : goal.kind_of-requires
kind_of-requires c =
    let h = c.head_ok in
    omega (arith, head-long c.args.frame.now (sym h.ensures ∙ c.if-not-head_ok.false))

pub returns-in_err-kind : goal.returns-in_err-kind
unfolding well_formed body_ok ◌and◌
returns-in_err-kind c =
    let outside : within 1 11 (kind_of c.args.frame.now) ≡ false = rw (c.in_err-kind.was, c.kind_of.ensures) at c.of_number.ensures in
    rw (c.from_residual.ensures, ← c.head_ok.ensures, c.if-not-head_ok.false, outside)

pub returns-then-not-body_ok : goal.returns-then-not-body_ok
unfolding well_formed ◌and◌
returns-then-not-body_ok c =
    let named = rw c.in_ok-kind.was at c.of_number.ensures in
    let s = c.args.frame.now in
    rw (← c.head_ok.ensures, c.if-not-head_ok.false) (ap (λ k. body_ok k s) (sym (named.1 ∙ c.kind_of.ensures)) ∙ sym c.body_ok.ensures ∙ c.if-not-body_ok.true)

pub returns : goal.returns
unfolding well_formed ◌and◌
returns c =
    let named = rw c.in_ok-kind.was at c.of_number.ensures in
    let s = c.args.frame.now in (
      rw (← c.head_ok.ensures, c.if-not-head_ok.false) (ap (λ k. body_ok k s) (sym (named.1 ∙ c.kind_of.ensures)) ∙ sym c.body_ok.ensures ∙ c.if-not-body_ok.false),
      named.1 ∙ c.kind_of.ensures,
    )
