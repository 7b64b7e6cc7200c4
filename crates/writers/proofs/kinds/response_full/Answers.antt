-- `writers::kinds::response_full` meets its contract: each part stands straight behind the one before. Assumes nothing.
use Rattle.std.specs.Prelude.{Some, None}
use mathlib.Core.Path.{refl}
use Rattle.numbers.specs.Numbers.{big}
use Rattle.numbers.proofs.RunLaws.{over-lend}
use Rattle.writers.specs.Writers.{header, encode, state_size, size_of, length_of}
use mathlib.Core.Path.{sym}
use Prim.Native.Nat.{◌*◌}
use lib.ListN.{take}
use lib.Seq.{length-take-le}
use Rattle.frames.specs.declared.Message.TheVariants.{RecoveryResponse}
use Rattle.writers.proofs.WriterLaws.{encode-length}
use Rattle.writers.proofs.kinds.response_full.Goals as goal
use Rattle.frames.specs.Messages.{progress}

pub returns : goal.returns
unfolding big header encode size_of state_size length_of
returns c =
    let a = c.args in
    let s2 = over-lend _ _ _ 21 refl c.write_response.ensures c.write_u32.ensures in
    let s3 = over-lend _ _ _ 25 refl s2 c.write_u32-2.ensures in
    record {
      bytes = over-lend _ _ _ 29 refl s3 c.copy.ensures;
      count = sym (encode-length a.to (RecoveryResponse a.v a.x a.r (Some (progress a.o a.c))) (take (32 * a.o.0) a.log.now) (length-take-le (32 * a.o.0) a.log.now c.requires.1.0));
    }
