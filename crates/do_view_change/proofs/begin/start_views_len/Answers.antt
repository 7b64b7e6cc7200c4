-- `do_view_change::begin::start_views_len` meets its contract. Assumes nothing.
use native.Mathlib.Omega.{arith}
use Rattle.config.proofs.SetupLaws.{sized}
use Rattle.do_view_change.proofs.begin.start_views_len.Goals as goal

pub overflow_sub-result : goal.overflow_sub-result
overflow_sub-result c = let z = sized c.args.t.setup c.requires.0 in omega (arith, z.three)
