-- `reports::judge::place` meets its contract. Assumes nothing.
use Rattle.reports.proofs.JudgeLaws.{place_is}
use Rattle.reports.proofs.judge.place.Goals as goal

pub returns : goal.returns
returns c = place_is c.args.room c.args.id
