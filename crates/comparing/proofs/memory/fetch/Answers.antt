-- `comparing::memory::fetch` meets its contract. Assumes nothing.
use Rattle.std.proofs.Common.{◌∙◌}
use Rattle.comparing.proofs.AreaLaws.{fetch-none, fetch-some}
use Rattle.comparing.proofs.memory.fetch.Goals as goal

pub returns-in-Some : goal.returns-in-Some
returns-in-Some c = c.copy_from_slice.ensures.after ∙ c.in-Some.ensures.1 ∙ fetch-some c.args.at c.args.memory.now c.args.area.now c.in-Some.ensures.0

pub returns-in_default : goal.returns-in_default
returns-in_default c = fetch-none c.args.at c.args.memory.now c.args.area.now c.in_default.ensures
