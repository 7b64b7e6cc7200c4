-- `normal::tick::send_prepare` meets its contract. Assumes nothing.
use native.Mathlib.Omega.{arith}
use lib.ListN.{length}
use Rattle.normal.proofs.TickLaws.{prepares-one}
use Rattle.normal.proofs.SendLaws.{prepare-asks}
use Rattle.normal.proofs.tick.send_prepare.Goals as goal

pub broadcast-requires : goal.broadcast-requires
broadcast-requires c =
    let a = c.args in
    prepare-asks a.s.setup c.requires.0.sized _ _ _ _ _ (length a.out.now) (omega (arith, c.requires.1.1))

pub returns : goal.returns
returns c =
    let a = c.args in
    prepares-one a.s a.log.now c.requires.0 a.i _ _ a.out.now _ c.entry_in.ensures
    c.broadcast.ensures
