-- `state_bytes::write_place` meets its contract. Assumes nothing.
use mathlib.Core.Path.{refl, ap, ◌∙◌}
use Prim.Native.Nat.{ℕ}
use Rattle.numbers.specs.Numbers.{big, over}
use Rattle.numbers.proofs.RunLaws.{over-lend}
use Rattle.state_bytes.specs.Layout.{encode_place}
use Rattle.state_bytes.proofs.write_place.Goals as goal

pub returns : goal.returns
unfolding big encode_place
returns c =
    let before = c.args.area.now in
    let s1 = c.write_u8.ensures ∙ ap (λ (k : ℕ). over (big 1 k) before) c.from.ensures in
    let s2 = over-lend _ _ _ 1 refl s1 c.write_u32.ensures in
    let s3 = over-lend _ _ _ 5 refl s2 c.write_u32-2.ensures in
    let s4 = over-lend _ _ _ 9 refl s3 c.write_flag.ensures in
    let s5 = over-lend _ _ _ 10 refl s4 c.write_u32-3.ensures in
    over-lend _ _ _ 14 refl s5 c.write_u32-4.ensures
