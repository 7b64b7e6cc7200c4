-- `normal::prepare_ok::commit_with_replies` meets its contract. Assumes nothing.
use Rattle.normal.proofs.PrepareOkLaws.{replies-fit, all-committed}
use Rattle.normal.proofs.prepare_ok.commit_with_replies.Goals as goal

pub write_replies-requires : goal.write_replies-requires
write_replies-requires c = let a = c.args in let p = c.requires in replies-fit a.s a.op a.log.now a.results.now a.totals.now p.0 p.1.0 p.1.1.0 _ _ c.commit_up_to-t.auto.results p.1.1.1.1

pub returns : goal.returns
returns c = let a = c.args in all-committed a.s a.op a.log.now a.results.now a.totals.now a.acks.now a.reps.now _ _ _ _ _ _ _ c.commit_up_to-t.ensures.0 c.commit_up_to-t.ensures.1 c.write_replies.ensures c.ack_place.ensures c.fill.ensures c.done.ensures
