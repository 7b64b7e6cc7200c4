-- The entry is written whole, then put at its place.
use Rattle.entries.specs.Entries.{encode_entry}
use Rattle.entries.proofs.EntryLaws.{length-encode}
use Rattle.frame_vectors.proofs.VectorLaws.{put-filled}
use Rattle.frame_vectors.proofs.vector.put_entry.Goals as goal

pub returns : goal.returns
returns c = put-filled (encode_entry c.args.e) _ _ c.args.at (length-encode c.args.e) c.write_entry.ensures c.store.ensures
