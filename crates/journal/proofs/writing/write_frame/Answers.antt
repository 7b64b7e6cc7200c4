-- `journal::writing::write_frame` meets its contract: each part stands straight behind the one before. Assumes nothing.
use mathlib.Core.Path.{refl}
use Rattle.numbers.specs.Numbers.{big}
use Rattle.numbers.proofs.RunLaws.{over-lend}
use Rattle.entries.specs.Entries.{encode_entry}
use Rattle.journal.specs.Journal.{journal_frame}
use Rattle.journal.proofs.writing.write_frame.Goals as goal

pub returns : goal.returns
unfolding big encode_entry journal_frame
returns c =
    let s2 = over-lend _ _ _ 4 refl c.write_u32.ensures c.write_u8.ensures in
    let s3 = over-lend _ _ _ 5 refl s2 c.write_u32-2.ensures in
    let s4 = over-lend _ _ _ 9 refl s3 c.write_entry.ensures in
    over-lend _ _ _ 41 refl s4 c.write_result.ensures
