-- `journal::write` meets its contract. Assumes nothing.
use mathlib.Core.Path.{sym, ◌∙◌}
use Rattle.numbers.proofs.NumberLaws.{within_both}
use Rattle.journal.proofs.CallLaws.{write-out, write-bad, write-many, write-no_room, written}
use Rattle.journal.proofs.write.Goals as goal

pub returns-then-not-within : goal.returns-then-not-within
returns-then-not-within c =
    let a = c.args in
    write-out a.members a.run.now a.area.now (sym c.within.ensures ∙ c.if-not-within.true)

pub returns-then-not-run_ok : goal.returns-then-not-run_ok
returns-then-not-run_ok c =
    let a = c.args in
    write-bad a.members a.run.now a.area.now (sym c.within.ensures ∙ c.if-not-within.false)
    (sym c.run_ok.ensures ∙ c.if-not-run_ok.true)

pub returns-then-n-gt4096 : goal.returns-then-n-gt4096
returns-then-n-gt4096 c =
    let a = c.args in
    write-many a.members a.run.now a.area.now (sym c.within.ensures ∙ c.if-not-within.false)
    (sym c.run_ok.ensures ∙ c.if-not-run_ok.false) c.if-n-gt4096.true

pub returns-then-area-n : goal.returns-then-area-n
returns-then-area-n c =
    let a = c.args in
    write-no_room a.members a.run.now a.area.now (sym c.within.ensures ∙ c.if-not-within.false)
    (sym c.run_ok.ensures ∙ c.if-not-run_ok.false) c.if-n-gt4096.false c.if-area-n.true

pub write_frames-requires : goal.write_frames-requires
write_frames-requires c =
    let m = within_both 1 4096 c.args.members (sym c.within.ensures ∙ c.if-not-within.false) in
    record { some = m.0; few = c.if-n-gt4096.false; room = c.if-area-n.false }

pub returns : goal.returns
returns c =
    let a = c.args in
    written a.members a.run.now a.area.now (sym c.within.ensures ∙ c.if-not-within.false)
    (sym c.run_ok.ensures ∙ c.if-not-run_ok.false) c.if-n-gt4096.false _ c.if-area-n.false c.write_frames.ensures
