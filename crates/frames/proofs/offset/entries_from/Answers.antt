-- `frames::offset::entries_from` meets its contract. Assumes nothing.
use native.Mathlib.Omega.{arith}
use mathlib.Core.Path.{◌≡◌}
use borrow.Author.Tests.{eq-eqb, ne_eqb}
use lib.Dec.{lit≤}
use Rattle.numbers.specs.Words.{when◌then◌else◌}
use Rattle.frames.specs.Kinds.{kind_number}
use Rattle.frames.specs.FrameRules.{entries_from}
use Rattle.frames.specs.declared.Kind.TheVariants.{RecoveryResponse}
use Rattle.frames.proofs.KindLaws.{kind-low, kind-high, is-kind, not-kind}
use Rattle.frames.proofs.LiveLaws.{from-most}
use Rattle.frames.proofs.offset.entries_from.Goals as goal
use Rattle.frames.proofs.offset.entries_from.Goals.{then-eq+else-n-ne17, else-eq}

pub returns-then-n-ne17 : goal.returns-then-n-ne17
unfolding entries_from when◌then◌else◌
returns-then-n-ne17 c = (rw (is-kind _ RecoveryResponse c.eq.ensures c.if-eq.true, ne_eqb _ _ c.if-n-ne17.true), lit≤ tt)

found : (c : goal.After-fields_end) → c.fields_end.result ≡ entries_from (kind_number c.args.kind) c.args.n
unfolding entries_from when◌then◌else◌
found c =
    elim c.if-eq.branch [
      | then-eq+else-n-ne17 w ↦ rw (is-kind _ RecoveryResponse c.eq.ensures w.if-eq.true, eq-eqb _ _ w.if-n-ne17.false) (rw (is-kind _ RecoveryResponse c.eq.ensures w.if-eq.true) at c.fields_end.ensures)
      | else-eq w ↦ rw (not-kind _ RecoveryResponse c.eq.ensures w.if-eq.false) c.fields_end.ensures
    ]

pub returns : goal.returns
returns c =
    let a = c.args in
    (found c, omega (arith, found c, from-most (kind_number a.kind) a.n (kind-low a.kind) (kind-high a.kind)))
