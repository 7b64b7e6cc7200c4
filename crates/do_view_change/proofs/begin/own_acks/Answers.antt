-- `do_view_change::begin::own_acks` meets its contract. Assumes nothing.
use native.Mathlib.Omega.{arith}
use Rattle.config.proofs.SetupLaws.{sized}
use Rattle.do_view_change.proofs.BeginLaws.{acks-anew}
use Rattle.do_view_change.proofs.begin.own_acks.Goals as goal

pub insert-requires : goal.insert-requires
insert-requires c =
    let z = sized c.args.u.setup c.requires.0 in
    omega (arith, z.own, z.seven)

pub returns : goal.returns
returns c =
    let p = c.ack_place-c.ensures in
    acks-anew c.args.u c.args.acks.now c.requires.1.0 c.requires.1.1.0 _ _ _ _ p
    c.fill.ensures c.insert.ensures c.fill-2.ensures
