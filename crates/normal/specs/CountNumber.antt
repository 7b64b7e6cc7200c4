-- What an acknowledgement calls for, as number and values: refusals 5 and 10 have none; else the number is 0, with 1 or 0 for whether the ack is new, and for whether
-- all up to its op is committed. Assumes nothing.
use Rattle.std.specs.Prelude.{◌≡◌, not, [], ◌∷◌, ℕ, ◌-◌, ◌*◌, eqb, ltb}
use Rattle.numbers.specs.Words.{when◌then◌else◌, ◌or◌}
use Rattle.numbers.specs.declared.Op.{Op}
use Rattle.config.specs.Replicas.{bit, with_member, count_below, quorum_of}
use Rattle.frames.specs.Numbered.{Numbered, numbered}
use Rattle.state.specs.declared.Replica.{Replica}
use Rattle.normal.specs.PrepareOk.{ack_verdict}
use Rattle.normal.specs.declared.prepare_ok.Count.{Count}
use Rattle.normal.specs.declared.prepare_ok.Count.TheVariants.{Nothing, Note, Refuse, Commit}
use Rattle.frames.specs.Refusals.{number_of}

abbrev pub count_number : Count → Numbered
count_number Nothing = numbered 0 (0 ∷ 0 ∷ [])
count_number Note = numbered 0 (1 ∷ 0 ∷ [])
count_number (Refuse k) = numbered (number_of k) []
count_number Commit = numbered 0 (1 ∷ 1 ∷ [])

-- By the rules, `held` being the row of the op, `room` the size of the area for replies. Not new: no row, or the sender is in it. It fires only where the count
-- reaches the quorum exactly; then 5 where the op is past the log, and 10 where the replies don't fit.
unfoldable pub ack_numbers : Replica → Op → (held from room : ℕ) → Numbered
ack_numbers s op held from room =
    when eqb held 0 or eqb (bit held from) 1 then numbered 0 (0 ∷ 0 ∷ []) else
    when not (eqb (count_below s.setup.n (with_member held from)) (quorum_of s.setup.n)) then numbered 0 (1 ∷ 0 ∷ []) else
    when ltb s.op.0 op.0 then numbered 5 [] else
    when ltb room (36 * (op.0 - s.commit.0)) then numbered 10 [] else
    numbered 0 (1 ∷ 1 ∷ [])

-- what `prepare_ok::weigh` promises: the enum, and its number and values
pub record WeighsAck (s : Replica) (op : Op) (held from room : ℕ) (r : Count) : Type 0 where
  pub exact : r ≡ ack_verdict s op held from room
  pub number : count_number r ≡ ack_numbers s op held from room
