-- What a statement opens so that antt computes it: all definitions of the rules of a frame's places. Assumes nothing.
use Rattle.numbers.specs.Words.{when◌then◌else◌, ◌and◌, ◌or◌}
use Rattle.numbers.specs.Numbers.{big, within}
use Rattle.offsets.specs.Rules.{reach, free, between}
use Rattle.frames.specs.FrameRules.{carries_log, entries_from, count_for, fits, some_fits, cents_rule, entry_rule, entries_rule, log_rule, part_rule, state_rule, bound_from, bound_rule, body_rule, kind_rule, frame_rule, offset_of}
use Rattle.against_rust.specs.Shape.{hex}

unfoldable pub open-offsets : Unit {0}
unfolding when◌then◌else◌ ◌and◌ ◌or◌ big within reach free between carries_log entries_from count_for fits some_fits cents_rule entry_rule entries_rule log_rule part_rule state_rule bound_from bound_rule body_rule kind_rule frame_rule offset_of hex
open-offsets = tt
