-- `csv_table::fields::kind_in` meets its contract: its tests are those of the definition, word by word.
-- Assumes nothing.
use mathlib.Core.Path.{sym, ap, ◌∙◌}
use Rattle.numbers.specs.Words.{when◌then◌else◌}
use Rattle.csv_table.specs.Fields.{same, kind_in}
use Rattle.csv_table.specs.Table.{kind_word}
use Rattle.csv_table.proofs.fields.kind_in.Goals as goal

pub returns-then-eq : goal.returns-then-eq
unfolding kind_in kind_word when◌then◌else◌
returns-then-eq c =
    let t = c.args.t.now in
    let p = sym (c.eq.ensures ∙ ap (same t) c.as_slice.ensures) ∙ c.if-eq.true in
    rw p

pub returns-then-eq-2 : goal.returns-then-eq-2
unfolding kind_in kind_word when◌then◌else◌
returns-then-eq-2 c =
    let t = c.args.t.now in
    let p = sym (c.eq.ensures ∙ ap (same t) c.as_slice.ensures) ∙ c.if-eq.false in
    let q = sym (c.eq-2.ensures ∙ ap (same t) c.as_slice-2.ensures) ∙ c.if-eq-2.true in
    rw (p, q)

pub returns-then-eq-3 : goal.returns-then-eq-3
unfolding kind_in kind_word when◌then◌else◌
returns-then-eq-3 c =
    let t = c.args.t.now in
    let p = sym (c.eq.ensures ∙ ap (same t) c.as_slice.ensures) ∙ c.if-eq.false in
    let q = sym (c.eq-2.ensures ∙ ap (same t) c.as_slice-2.ensures) ∙ c.if-eq-2.false in
    let r = sym (c.eq-3.ensures ∙ ap (same t) c.as_slice-3.ensures) ∙ c.if-eq-3.true in
    rw (p, q, r)

pub returns : goal.returns
unfolding kind_in kind_word when◌then◌else◌
returns c =
    let t = c.args.t.now in
    let p = sym (c.eq.ensures ∙ ap (same t) c.as_slice.ensures) ∙ c.if-eq.false in
    let q = sym (c.eq-2.ensures ∙ ap (same t) c.as_slice-2.ensures) ∙ c.if-eq-2.false in
    let r = sym (c.eq-3.ensures ∙ ap (same t) c.as_slice-3.ensures) ∙ c.if-eq-3.false in
    rw (p, q, r)
