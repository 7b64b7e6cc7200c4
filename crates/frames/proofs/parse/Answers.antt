-- `frames::parse` meets its contract. Assumes nothing.
use mathlib.Core.Path.{◌≡◌}
use mathlib.Core.Bool.{true, false}
use native.Mathlib.Omega.{arith}
use Rattle.numbers.specs.Words.{when◌then◌else◌}
use Rattle.frames.specs.Kinds.{kind_number, kind_of, well_formed}
use Rattle.frames.specs.Messages.{parse_frame}
use Rattle.frames.proofs.KindLaws.{well-formed}
use Rattle.frames.proofs.NumberedLaws.{parses}
use Rattle.frames.proofs.parse.Goals as goal

pub returns-in_default : goal.returns-in_default
unfolding parse_frame when◌then◌else◌
returns-in_default c =
    let malformed : well_formed c.args.frame.now ≡ false = rw c.in_default.is at c.well_formed-2.ensures in
    parses _ _ (rw (malformed, ← c.offset.ensures))

pub read_u8-requires : goal.read_u8-requires
read_u8-requires c =
    let f = rw c.in-Some.is at c.well_formed-2.ensures in
    omega (arith, (well-formed c.args.frame.now f.0).long)

pub said-requires : goal.said-requires
said-requires c =
    let f = rw c.in-Some.is at c.well_formed-2.ensures in
    rw f.1 (omega (arith, (well-formed c.args.frame.now f.0).exact))

pub returns : goal.returns
unfolding parse_frame when◌then◌else◌
returns c =
    let f : (well_formed c.args.frame.now ≡ true) × (kind_number c.in-Some.kind ≡ kind_of c.args.frame.now) = rw c.in-Some.is at c.well_formed-2.ensures in
    parses _ _ (rw (f.0, ← c.read_u8.ensures, ← f.1, ← c.said.ensures))
