-- `entries::write_entry` meets its contract: each part stands straight behind the one before. Assumes nothing.
use mathlib.Core.Path.{refl}
use native.Mathlib.Omega.{arith}
use Rattle.numbers.specs.Numbers.{big}
use Rattle.numbers.proofs.RunLaws.{over-lend}
use Rattle.entries.specs.Entries.{encode_entry}
use Rattle.entries.proofs.EntryLaws.{operation-written}
use Rattle.entries.proofs.write_entry.Goals as goal

pub returns : goal.returns
unfolding big encode_entry
returns c =
    let e = c.args.e in
    let s2 = over-lend _ _ _ 8 refl c.write_u64.ensures c.write_u64-2.ensures in
    let s3 = over-lend _ _ _ 16 refl s2 (operation-written e.operation (omega arith) _ c.write_u32.ensures) in
    let s4 = over-lend _ _ _ 20 refl s3 c.write_u32-2.ensures in
    over-lend _ _ _ 24 refl s4 c.write_u64-3.ensures
