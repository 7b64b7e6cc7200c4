-- `replica::call::on_message` meets its contract. Assumes nothing.
use mathlib.Core.Path.{sym, ◌∙◌}
use lib.ListN.{length}
use Rattle.outside.proofs.SoundLaws.{sound-is}
use Rattle.outside.proofs.CallLaws.{passed_is}
use Rattle.replica.proofs.CallLaws.{malformed, passes}
use Rattle.replica.proofs.PromiseLaws.{message-promised}
use Rattle.replica.proofs.PointLaws.{message-points}
use Rattle.replica.specs.Lent.{lent, lengths_of}
use Rattle.replica.proofs.call.on_message.Goals as goal

pub take-requires : goal.take-requires
take-requires c = let a = c.args in let x = (lent a.log.now a.results.now a.totals.now a.acks.now a.stored.now a.table.now a.out.now a.reps.now) in let p = passed_is a.s (lengths_of x) a.frame.now _ (sym c.checked.ensures.exact ∙ c.in-Ok.is) in let w = sound-is a.s x.core (length x.table) p.0 in (w.gathering, (p.1, w.table-long))

pub returns-in-Err : goal.returns-in-Err
returns-in-Err c = let a = c.args in let x = (lent a.log.now a.results.now a.totals.now a.acks.now a.stored.now a.table.now a.out.now a.reps.now) in let k = c.checked in let g = c.in-Err.is in let e = malformed a.s a.frame.now x k.result k.ensures.exact _ g c.refused.ensures in (message-promised a.s a.frame.now x _ e, message-points a.s a.frame.now x k.result k.ensures.exact e)

pub returns-in-Ok : goal.returns-in-Ok
returns-in-Ok c = let a = c.args in let x = (lent a.log.now a.results.now a.totals.now a.acks.now a.stored.now a.table.now a.out.now a.reps.now) in let k = c.checked in let g = c.in-Ok.is in let e = passes a.s a.frame.now x k.result k.ensures.exact _ g c.take.ensures in (message-promised a.s a.frame.now x _ e, message-points a.s a.frame.now x k.result k.ensures.exact e)
