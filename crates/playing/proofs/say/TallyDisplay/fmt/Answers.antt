-- The four writes are the four lines of the counts. Assumes nothing.
use Rattle.std.proofs.Common.{rules}
use Rattle.std.proofs.lemmas.List.{append_assoc}
use Rattle.std.proofs.Output.{has_written_append, has_written_of_eq}
use Rattle.playing.proofs.say.TallyDisplay.fmt.Goals as goal

pub returns-clause-writes : goal.returns-clause-writes
returns-clause-writes g c plain ok =
    let one = c.writeln.ensures.writes plain (search rules) in
    let two = c.writeln-2.ensures.writes one.plain (search rules) in
    let three = c.writeln-3.ensures.writes two.plain (search rules) in
    has_written_of_eq _ _ _ _ _ (simp append_assoc) (has_written_append _ _ _ _ _ _ one (has_written_append _ _ _ _ _ _ two (has_written_append _ _ _ _ _ _ three (c.write.ensures.writes three.plain ok))))
