-- `journal::append` meets its contract. Assumes nothing.
use mathlib.Core.Path.{sym, ◌∙◌}
use native.Mathlib.Omega.{arith}
use Rattle.journal.proofs.CallLaws.{ops-are, append-out, append-no_room, appended}
use Rattle.journal.proofs.append.Goals as goal

pub returns-then-not-ops_there : goal.returns-then-not-ops_there
returns-then-not-ops_there c =
    let a = c.args in
    append-out a.from a.to a.log.now a.results.now a.area.now (sym c.ops_there.ensures ∙ c.if-not-ops_there.true)

pub overflow_sub-k : goal.overflow_sub-k
overflow_sub-k c =
    let a = c.args in
    (ops-are a.from a.to a.log.now a.results.now (sym c.ops_there.ensures ∙ c.if-not-ops_there.false)).up

pub returns-then-area-k : goal.returns-then-area-k
returns-then-area-k c =
    let a = c.args in
    append-no_room a.from a.to a.log.now a.results.now a.area.now (sym c.ops_there.ensures ∙ c.if-not-ops_there.false) c.if-area-k.true

pub copy_frames-requires : goal.copy_frames-requires
copy_frames-requires c =
    let a = c.args in
    let o = ops-are a.from a.to a.log.now a.results.now (sym c.ops_there.ensures ∙ c.if-not-ops_there.false) in
    record {
      few = omega (arith, o.up, o.few);
      logged = omega (arith, o.up, o.in-log);
      given = omega (arith, o.up, o.in-results);
      room = omega arith;
    }

pub returns : goal.returns
returns c =
    let a = c.args in
    appended a.from a.to a.log.now a.results.now a.area.now (sym c.ops_there.ensures ∙ c.if-not-ops_there.false) _ c.if-area-k.false
    c.copy_frames.ensures
