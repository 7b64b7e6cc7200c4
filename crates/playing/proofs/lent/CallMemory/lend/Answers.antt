-- The runs behind the first stand in fronts of the memory's runs, each cut at the place of the run behind it. Assumes nothing.
use Rattle.std.proofs.Common.{◌*◌, ◌∙◌, min, arith}
use Rattle.comparing.specs.declared.memory.TheConstants.{RESULTS, TOTALS, ACKS, TABLE, STORED}
use Rattle.playing.proofs.LentLaws.{part-in-front}
use Rattle.playing.proofs.lent.CallMemory.lend.Goals as goal

pub returns-clause-table_from : goal.returns-clause-table_from
returns-clause-table_from c =
    let n = 25 * min c.args.u.room 8 in
    rw (c.split_at_mut-rest-2.ensures.back, c.min-room.ensures) (part-in-front TABLE n STORED c.args.self.now.runs (omega arith) c.split_at_mut-rest.ensures.front)

pub returns-clause-acks_from : goal.returns-clause-acks_from
returns-clause-acks_from c =
    let n = min c.args.u.room 8 in
    rw (c.split_at_mut-rest-3.ensures.back, c.min-room.ensures)
    (part-in-front ACKS n TABLE _ (omega arith) c.split_at_mut-rest-2.ensures.front ∙ part-in-front ACKS n STORED _ (omega arith) c.split_at_mut-rest.ensures.front)

pub returns-clause-totals_from : goal.returns-clause-totals_from
returns-clause-totals_from c =
    let n = 8 * min c.args.u.members 8 in
    rw (c.split_at_mut-rest-4.ensures.back, c.min-m.ensures)
    (part-in-front TOTALS n ACKS _ (omega arith) c.split_at_mut-rest-3.ensures.front ∙ part-in-front TOTALS n TABLE _ (omega arith) c.split_at_mut-rest-2.ensures.front
    ∙ part-in-front TOTALS n STORED _ (omega arith) c.split_at_mut-rest.ensures.front)

pub returns-clause-results_from : goal.returns-clause-results_from
returns-clause-results_from c =
    let n = 9 * min c.args.u.room 8 in
    rw (c.split_at_mut-log.ensures.back, c.min-room.ensures)
    (part-in-front RESULTS n TOTALS _ (omega arith) c.split_at_mut-rest-4.ensures.front ∙ part-in-front RESULTS n ACKS _ (omega arith) c.split_at_mut-rest-3.ensures.front
    ∙ part-in-front RESULTS n TABLE _ (omega arith) c.split_at_mut-rest-2.ensures.front ∙ part-in-front RESULTS n STORED _ (omega arith) c.split_at_mut-rest.ensures.front)
