-- `comparing::memory::untouched` meets its contract. Assumes nothing.
use Rattle.std.proofs.Common.{ap, ◌∙◌}
use Rattle.comparing.specs.Areas.{all_spoilt}
use Rattle.comparing.proofs.AreaLaws.{alone-none, alone-all}
use Rattle.comparing.proofs.memory.untouched.Goals as goal

pub returns-in-Some : goal.returns-in-Some
returns-in-Some c = let e = c.in-Some.ensures.lookup in c.spoilt.ensures ∙ ap all_spoilt e.0.2 ∙ alone-all c.args.from c.args.to c.args.area.now e.0.1 e.0.0

pub returns-in-None : goal.returns-in-None
returns-in-None c = alone-none c.args.from c.args.to c.args.area.now c.in-None.ensures.lookup.0
