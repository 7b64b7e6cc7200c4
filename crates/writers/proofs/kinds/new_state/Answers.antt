-- `writers::kinds::new_state` meets its contract: each part stands straight behind the one before. Assumes nothing.
use mathlib.Core.Path.{refl, sym, ap, ◌∙◌}
use Prim.Native.Nat.{ℕ, ◌+◌, ◌-◌, ◌*◌}
use lib.ListN.{take}
use lib.Seq.{length-take-le}
use Rattle.numbers.specs.Numbers.{big}
use Rattle.numbers.proofs.RunLaws.{over-lend}
use Rattle.frames.specs.declared.Message.TheVariants.{NewState}
use Rattle.writers.specs.Writers.{header, encode, size_of, length_of}
use Rattle.writers.proofs.WriterLaws.{encode-length}
use Rattle.writers.proofs.kinds.new_state.Goals as goal

pub returns : goal.returns
unfolding big header encode size_of length_of
returns c =
    let a = c.args in
    let k = c.span-k.ensures in
    let s2 = over-lend _ _ _ 19 refl (rw k at c.write_span.ensures) c.write_u32.ensures in
    record {
      bytes = over-lend _ _ _ 23 refl s2 (rw k at c.copy.ensures);
      count =
          ap (λ (x : ℕ). 23 + 32 * x) k
          ∙ sym (encode-length a.to (NewState a.v a.a a.z a.c) (take (32 * (a.z.0 - a.a.0)) a.log.now) (length-take-le (32 * (a.z.0 - a.a.0)) a.log.now c.requires.1.0));
    }
