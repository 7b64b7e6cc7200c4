-- `state_bytes::write_onward` meets its contract. Assumes nothing.
use mathlib.Core.Path.{refl}
use Prim.Native.Nat.{◌^◌, ◌<◌}
use native.Mathlib.Omega.{arith}
use lib.ListN.{length-take, length-drop}
use Rattle.numbers.specs.Numbers.{big, Bytes}
use Rattle.numbers.proofs.RunLaws.{over-lend}
use Rattle.state_bytes.specs.Layout.{encode_setup, encode_place}
use Rattle.state_bytes.proofs.ReadLaws.{state-long}
use Rattle.state_bytes.proofs.OnwardLaws.{setup-front, status-front, onward-front, onward-long, onward-held}
use borrow.Author.Rules.{rules}
use Rattle.state_bytes.proofs.write_onward.Goals as goal

pub slice_bounds-write_u8-count : goal.slice_bounds-write_u8-count
slice_bounds-write_u8-count c = omega (arith, state-long _ c.requires.0)

pub slice_bounds-write_u8-start : goal.slice_bounds-write_u8-start
slice_bounds-write_u8-start c = omega (arith, state-long _ c.requires.0)

pub write_u8-requires : goal.write_u8-requires
write_u8-requires c = simp (length-take, length-drop) (omega (arith, state-long _ c.requires.0))

pub slice_bounds-write_u32-count : goal.slice_bounds-write_u32-count
slice_bounds-write_u32-count c = let l = state-long _ c.requires.0 in search rules

pub slice_bounds-write_u32-start : goal.slice_bounds-write_u32-start
slice_bounds-write_u32-start c = let l = state-long _ c.requires.0 in search rules

pub write_u32-requires : goal.write_u32-requires
write_u32-requires c = let l = state-long _ c.requires.0 in search rules

pub slice_bounds-write_u32-count-2 : goal.slice_bounds-write_u32-count-2
slice_bounds-write_u32-count-2 c = let l = state-long _ c.requires.0 in search rules

pub slice_bounds-write_u32-start-2 : goal.slice_bounds-write_u32-start-2
slice_bounds-write_u32-start-2 c = let l = state-long _ c.requires.0 in search rules

pub write_u32-requires-2 : goal.write_u32-requires-2
write_u32-requires-2 c = let l = state-long _ c.requires.0 in search rules

pub slice_bounds-write_flag-count : goal.slice_bounds-write_flag-count
slice_bounds-write_flag-count c = let l = state-long _ c.requires.0 in search rules

pub slice_bounds-write_flag-start : goal.slice_bounds-write_flag-start
slice_bounds-write_flag-start c = let l = state-long _ c.requires.0 in search rules

pub write_flag-requires : goal.write_flag-requires
write_flag-requires c = let l = state-long _ c.requires.0 in search rules

pub slice_bounds-write_u64-count : goal.slice_bounds-write_u64-count
slice_bounds-write_u64-count c = let l = state-long _ c.requires.0 in search rules

pub slice_bounds-write_u64-start : goal.slice_bounds-write_u64-start
slice_bounds-write_u64-start c = let l = state-long _ c.requires.0 in search rules

pub write_u64-requires : goal.write_u64-requires
write_u64-requires c = let l = state-long _ c.requires.0 in search rules

pub returns : goal.returns
unfolding big encode_setup encode_place
returns c =
    let t = c.args.s in
    let g = c.well_formed.1.0 in
    let b : Bytes c.args.run.now = λ i. omega (arith, c.slice_known-1.given i) in
    let s1 = setup-front _ b c.requires.0 in
    let s2 = over-lend _ _ _ 12 refl s1 c.write_u8.ensures in
    let s3 = over-lend _ _ _ 22 refl (status-front _ b c.requires.0 c.from.ensures s2) c.write_u32.ensures in
    let s4 = over-lend _ _ _ 26 refl s3 c.write_u32-2.ensures in
    let s5 = over-lend _ _ _ 30 refl s4 c.write_flag.ensures in
    let p : t.op.0 < 2 ^ 32 = omega (arith, g) in
    let q : t.commit.0 < 2 ^ 32 = omega (arith, g) in
    let x = t.status in
    let h = t.clock.heard in
    let s6 = over-lend _ _ _ 146 (onward-long _ b c.requires.0 x t.op t.commit h p q) (onward-front _ b c.requires.0 x t.op t.commit h p q s5) c.write_u64.ensures in
    onward-held _ b c.requires.0 x t.op t.commit h p q c.requires.1 refl refl refl refl (omega (arith, g)) s6
