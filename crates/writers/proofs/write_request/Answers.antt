-- `writers::write_request` meets its contract: each part stands straight behind the one before. Assumes nothing.
use mathlib.Core.Path.{refl}
use Rattle.numbers.specs.Numbers.{big}
use Rattle.numbers.proofs.RunLaws.{over-lend}
use Rattle.writers.specs.Writers.{header, encode}
use Rattle.entries.specs.Entries.{encode_entry}
use Rattle.writers.proofs.write_request.Goals as goal

pub returns : goal.returns
unfolding big header encode encode_entry
returns c =
    record { bytes = over-lend _ _ _ 7 refl c.write_header.ensures c.write_entry.ensures; count = refl }
