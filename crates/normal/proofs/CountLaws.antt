-- The number and values of what an acknowledgement calls for are those by the rules (count-number), so that who answers the definition keeps the whole promise
-- (weighs-ack). Assumes nothing.
use mathlib.Core.Path.{◌≡◌, refl, ap, ◌∙◌}
use mathlib.Core.Bool.{Bool, true, false, not}
use mathlib.Core.List.{[], ◌∷◌}
use Prim.Native.Nat.{ℕ, ◌-◌, ◌*◌}
use lib.Dec.{eqb, ltb}
use Rattle.numbers.specs.Words.{when◌then◌else◌, ◌or◌}
use Rattle.numbers.specs.declared.Op.{Op}
use Rattle.config.specs.Replicas.{bit, with_member, count_below, quorum_of}
use Rattle.frames.specs.Numbered.{numbered}
use Rattle.state.specs.declared.Replica.{Replica}
use Rattle.normal.specs.PrepareOk.{ack_verdict}
use Rattle.normal.specs.CountNumber.{count_number, ack_numbers, WeighsAck}
use Rattle.normal.specs.declared.prepare_ok.Count.{Count}
use Rattle.normal.specs.declared.prepare_ok.Count.TheVariants.{Nothing, Note, Refuse, Commit}
use Rattle.frames.specs.declared.Refusal.TheVariants.{PastLog, NoRoomForReplies}

by_tests : (none known full past short : Bool)
    → count_number
    (when none then Nothing else when known then Nothing else when not full then Note else when past then Refuse PastLog else when short then Refuse NoRoomForReplies else Commit)
    ≡ (when none or known then numbered 0 (0 ∷ 0 ∷ []) else
    when not full then numbered 0 (1 ∷ 0 ∷ []) else
    when past then numbered 5 [] else
    when short then numbered 10 [] else
    numbered 0 (1 ∷ 1 ∷ []))
unfolding when◌then◌else◌ ◌or◌
by_tests true k f p s = refl
by_tests false true f p s = refl
by_tests false false false p s = refl
by_tests false false true true s = refl
by_tests false false true false true = refl
by_tests false false true false false = refl

module _ (s : Replica) (op : Op) (held from room : ℕ) where
  pub count-number : count_number (ack_verdict s op held from room) ≡ ack_numbers s op held from room
  unfolding ack_verdict ack_numbers
  count-number =
      by_tests (eqb held 0) (eqb (bit held from) 1) (eqb (count_below s.setup.n (with_member held from)) (quorum_of s.setup.n)) (ltb s.op.0 op.0)
      (ltb room (36 * (op.0 - s.commit.0)))

  pub weighs-ack : (r : Count) → r ≡ ack_verdict s op held from room → WeighsAck s op held from room r
  weighs-ack r e = record { exact = e; number = ap count_number e ∙ count-number }
