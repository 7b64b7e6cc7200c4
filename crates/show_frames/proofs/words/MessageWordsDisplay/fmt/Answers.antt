-- A DoViewChange's five numbers, each behind its name. Assumes nothing.
use Rattle.std.proofs.lemmas.List.{append_assoc}
use Rattle.show_frames.proofs.words.MessageWordsDisplay.fmt.Goals as goal

pub returns-in-DoViewChange-clause-writes : goal.returns-in-DoViewChange-clause-writes
returns-in-DoViewChange-clause-writes g c plain ok =
    rw c.in-DoViewChange.is (simp append_assoc (c.write-in-DoViewChange.ensures.writes plain ok))
