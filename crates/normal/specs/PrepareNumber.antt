-- What a Prepare calls for, as number and values: refusals 4 and 6 have none; else the number is 0, with 1 or 0 for whether it starts a state transfer, and for
-- whether it is appended; a re-sent one is neither. Assumes nothing.
use Rattle.std.specs.Prelude.{◌≡◌, not, [], ◌∷◌, ◌+◌, ltb, leb}
use Rattle.numbers.specs.Words.{when◌then◌else◌}
use Rattle.frames.specs.Numbered.{Numbered, numbered}
use Rattle.client_table.specs.Latest.{is_new}
use Rattle.state.specs.declared.Replica.{Replica}
use Rattle.normal.specs.Prepare.{prepare_verdict}
use Rattle.normal.specs.declared.prepare.Prepared.{Prepared}
use Rattle.normal.specs.declared.prepare.PrepareVerdict.{PrepareVerdict}
use Rattle.normal.specs.declared.prepare.PrepareVerdict.TheVariants.{Transfer, Again, Refuse, Append}
use Rattle.frames.specs.Refusals.{number_of}

abbrev pub prepare_number : PrepareVerdict → Numbered
prepare_number Transfer = numbered 0 (1 ∷ 0 ∷ [])
prepare_number Again = numbered 0 (0 ∷ 0 ∷ [])
prepare_number (Refuse k) = numbered (number_of k) []
prepare_number Append = numbered 0 (0 ∷ 1 ∷ [])

-- By the rules: an op past the next one, an earlier one, and the next one, which is 4 at L entries, then 6 where its client's number isn't new.
unfoldable pub prepare_numbers : Replica → Prepared → Numbered
prepare_numbers s p =
    when ltb (s.op.0 + 1) p.op.0 then numbered 0 (1 ∷ 0 ∷ []) else
    when ltb p.op.0 (s.op.0 + 1) then numbered 0 (0 ∷ 0 ∷ []) else
    when leb s.setup.room s.op.0 then numbered 4 [] else
    when not (is_new p.latest p.entry.request) then numbered 6 [] else
    numbered 0 (0 ∷ 1 ∷ [])

-- what `prepare::weigh` promises: the enum, and its number and values
pub record WeighsPrepare (s : Replica) (p : Prepared) (r : PrepareVerdict) : Type 0 where
  pub exact : r ≡ prepare_verdict s p
  pub number : prepare_number r ≡ prepare_numbers s p
