-- `state_bytes::write_clocked` meets its contract. Assumes nothing.
use mathlib.Core.Path.{refl}
use native.Mathlib.Omega.{arith}
use lib.ListN.{length-take, length-drop}
use Rattle.numbers.specs.Numbers.{big, Bytes}
use Rattle.numbers.proofs.RunLaws.{over-lend}
use Rattle.state_bytes.specs.Layout.{encode_setup, encode_place}
use Rattle.state_bytes.proofs.ReadLaws.{state-long}
use Rattle.state_bytes.proofs.OnwardLaws.{place-front, clocked-held}
use Rattle.state_bytes.proofs.write_clocked.Goals as goal

pub slice_bounds-write_clock-count : goal.slice_bounds-write_clock-count
slice_bounds-write_clock-count c = omega (arith, state-long _ c.requires.0)

pub slice_bounds-write_clock-start : goal.slice_bounds-write_clock-start
slice_bounds-write_clock-start c = omega (arith, state-long _ c.requires.0)

pub write_clock-requires : goal.write_clock-requires
write_clock-requires c = simp (length-take, length-drop) (omega (arith, state-long _ c.requires.0))

pub returns : goal.returns
unfolding big encode_setup encode_place
returns c =
    let g = c.well_formed.1.0 in
    let b : Bytes c.args.run.now = λ i. omega (arith, c.slice_known-1.given i) in
    let s1 = place-front _ b c.requires.0 in
    let s2 = over-lend _ _ _ 30 refl s1 c.write_clock.ensures in
    clocked-held _ b c.requires.0 c.requires.1 (omega (arith, g)) (omega (arith, g)) (omega (arith, g)) s2
