-- `transfer::new_state::on_new_state` meets its contract. Assumes nothing.
use mathlib.Core.Path.{sym, ◌∙◌}
use Rattle.book.specs.Memory.{runs}
use Rattle.numbers.proofs.RunLaws.{part-rest}
use Rattle.transfer.proofs.NewStateLaws.{fill-told, install-told, ignored, heard, filled-by, installed-by, skip-fits, rest-fits}
use Rattle.transfer.proofs.new_state.on_new_state.Goals as goal

pub overflow_sub-skip : goal.overflow_sub-skip
overflow_sub-skip c =
    let a = c.args in
    (fill-told a.s a.v a.p
    (sym c.use_of.ensures.exact ∙ c.in-Fill.is)).0

pub slice_bounds-fill-count : goal.slice_bounds-fill-count
slice_bounds-fill-count c =
    let a = c.args in
    skip-fits a.s a.v a.p a.part.now
    (sym c.use_of.ensures.exact ∙ c.in-Fill.is)
    c.requires.1.1

pub slice_bounds-fill-start : goal.slice_bounds-fill-start
slice_bounds-fill-start c =
    let a = c.args in
    skip-fits a.s a.v a.p a.part.now
    (sym c.use_of.ensures.exact ∙ c.in-Fill.is)
    c.requires.1.1

pub fill-requires : goal.fill-requires
fill-requires c =
    let a = c.args in
    (c.requires.0, ((fill-told a.s a.v a.p (sym c.use_of.ensures.exact ∙ c.in-Fill.is)).1, (c.requires.1.0, rest-fits a.s a.v a.p a.part.now (sym c.use_of.ensures.exact ∙ c.in-Fill.is) c.requires.1.1)))

pub install-requires : goal.install-requires
install-requires c =
    let a = c.args in
    (c.requires.0, (install-told a.s a.v a.p (sym c.use_of.ensures.exact ∙ c.in-Install.is), c.requires.1))

pub returns-in-Ignore : goal.returns-in-Ignore
returns-in-Ignore c =
    let a = c.args in
    ignored a.s a.v a.p a.part.now (runs a.log.now a.results.now a.totals.now) a.out.now _
    (sym c.use_of.ensures.exact ∙ c.in-Ignore.is) c.done.ensures

pub returns-in-Hear : goal.returns-in-Hear
returns-in-Hear c =
    let a = c.args in
    heard a.s a.v a.p a.part.now (runs a.log.now a.results.now a.totals.now) a.out.now _ _
    (sym c.use_of.ensures.exact ∙ c.in-Hear.is) c.heard.ensures
    c.done-in-Hear.ensures

pub returns-in-Fill : goal.returns-in-Fill
returns-in-Fill c =
    let a = c.args in
    filled-by a.s a.v a.p a.part.now (runs a.log.now a.results.now a.totals.now) a.out.now _ _
    (sym c.use_of.ensures.exact ∙ c.in-Fill.is)
    (part-rest _ a.part.now) c.fill.ensures

pub returns-in-Install : goal.returns-in-Install
returns-in-Install c =
    let a = c.args in
    installed-by a.s a.v a.p a.part.now (runs a.log.now a.results.now a.totals.now) a.out.now _
    (sym c.use_of.ensures.exact ∙ c.in-Install.is)
    c.install.ensures
