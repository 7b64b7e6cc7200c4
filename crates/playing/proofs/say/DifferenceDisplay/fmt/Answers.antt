-- A digest is written in sixteen digits. Assumes nothing.
use Rattle.std.proofs.lemmas.List.{append_assoc}
use Rattle.playing.proofs.WordLaws.{sixteen-digits}
use Rattle.playing.proofs.say.DifferenceDisplay.fmt.Goals as goal

pub returns-in-Digest-clause-writes : goal.returns-in-Digest-clause-writes
returns-in-Digest-clause-writes g c plain ok =
    let wrote = c.write-in-Digest.ensures.writes in
    let said = rw (c.in_radix.ensures, c.laid_out.ensures, sixteen-digits c.in-Digest.value) at wrote plain ok in
    rw c.in-Digest.is (simp append_assoc said)
