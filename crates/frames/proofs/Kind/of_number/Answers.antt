-- `frames::Kind::of_number` meets its contract. Assumes nothing.
use mathlib.Core.Path.{refl}
use Rattle.numbers.specs.Words.{◌and◌}
use Rattle.numbers.specs.Numbers.{within}
use Rattle.frames.proofs.KindLaws.{no-kind}
use Rattle.frames.proofs.Kind.of_number.Goals as goal

pub returns-in-1 : goal.returns-in-1
unfolding within ◌and◌
returns-in-1 c = rw c.in-1.is (refl, refl)

pub returns-in-2 : goal.returns-in-2
unfolding within ◌and◌
returns-in-2 c = rw c.in-2.is (refl, refl)

pub returns-in-3 : goal.returns-in-3
unfolding within ◌and◌
returns-in-3 c = rw c.in-3.is (refl, refl)

pub returns-in-4 : goal.returns-in-4
unfolding within ◌and◌
returns-in-4 c = rw c.in-4.is (refl, refl)

pub returns-in-5 : goal.returns-in-5
unfolding within ◌and◌
returns-in-5 c = rw c.in-5.is (refl, refl)

pub returns-in-6 : goal.returns-in-6
unfolding within ◌and◌
returns-in-6 c = rw c.in-6.is (refl, refl)

pub returns-in-7 : goal.returns-in-7
unfolding within ◌and◌
returns-in-7 c = rw c.in-7.is (refl, refl)

pub returns-in-8 : goal.returns-in-8
unfolding within ◌and◌
returns-in-8 c = rw c.in-8.is (refl, refl)

pub returns-in-9 : goal.returns-in-9
unfolding within ◌and◌
returns-in-9 c = rw c.in-9.is (refl, refl)

pub returns-in-10 : goal.returns-in-10
unfolding within ◌and◌
returns-in-10 c = rw c.in-10.is (refl, refl)

pub returns-in-11 : goal.returns-in-11
unfolding within ◌and◌
returns-in-11 c = rw c.in-11.is (refl, refl)

pub returns-in_default : goal.returns-in_default
returns-in_default c =
    let r = c.in_default.in_default-own.rest in
    no-kind c.args.k r.0.0.0.0.0.0.0.0.0.0.1 r.0.0.0.0.0.0.0.0.0.1 r.0.0.0.0.0.0.0.0.1 r.0.0.0.0.0.0.0.1 r.0.0.0.0.0.0.1 r.0.0.0.0.0.1 r.0.0.0.0.1 r.0.0.0.1 r.0.0.1 r.0.1 r.1
