-- The numbers and values of what a Request and a Prepare call for are those by the rules (request-number, prepare-number), so that who answers the definition
-- keeps the whole promise (weighs-request, weighs-prepare). Assumes nothing.
use mathlib.Core.Path.{◌≡◌, refl, ap, ◌∙◌}
use mathlib.Core.Bool.{Bool, true, false, not}
use mathlib.Core.List.{[], ◌∷◌}
use Prim.Native.Nat.{ℕ, ◌+◌}
use lib.Dec.{ltb, leb}
use Rattle.numbers.specs.Words.{when◌then◌else◌, ◌and◌}
use Rattle.entries.specs.declared.Entry.{Entry}
use Rattle.frames.specs.Numbered.{Numbered, numbered}
use Rattle.client_table.specs.Latest.{is_new}
use Rattle.client_table.specs.declared.Latest.{Latest}
use Rattle.client_table.specs.declared.Latest.TheVariants as Row
use Rattle.state.specs.State.{leads}
use Rattle.state.specs.Statuses.{is_normal}
use Rattle.state.specs.declared.Replica.{Replica}
use Rattle.normal.specs.Request.{sends_of, again_verdict, known_verdict, new_verdict, client_verdict, request_verdict}
use Rattle.normal.specs.RequestNumber.{passed_over, request_number, again_numbers, kept_numbers, new_numbers, request_numbers, WeighsRequest}
use Rattle.normal.specs.Prepare.{append_verdict, prepare_verdict}
use Rattle.normal.specs.PrepareNumber.{prepare_number, prepare_numbers, WeighsPrepare}
use Rattle.normal.specs.declared.prepare.Prepared.{Prepared}
use Rattle.normal.specs.declared.prepare.PrepareVerdict as P
use Rattle.normal.specs.declared.prepare.PrepareVerdict.TheVariants.{Transfer, Again}
use Rattle.normal.specs.declared.prepare.PrepareVerdict.TheVariants as Q
use Rattle.normal.specs.declared.request.RequestVerdict.{RequestVerdict}
use Rattle.normal.specs.declared.request.RequestVerdict.TheVariants.{Nothing, Resend, Refuse, Append}
use Rattle.frames.specs.declared.Refusal.TheVariants.{PastRoom, NotRising, NoRoomForMessages, NoRoomForReplies}

-- ---- Request

by_two : (a b : Bool) (x y z : RequestVerdict) → request_number (when a then x else when b then y else z)
    ≡ (when a then request_number x else when b then request_number y else request_number z)
unfolding when◌then◌else◌
by_two true b x y z = refl
by_two false true x y z = refl
by_two false false x y z = refl

by-new : (a : Bool) (x y : RequestVerdict) (k l : Numbered) → request_number x ≡ k → request_number y ≡ l
    → request_number (when a then x else y) ≡ (when a then k else l)
unfolding when◌then◌else◌
by-new true x y k l p q = p
by-new false x y k l p q = q

by-lead : (a b : Bool) (x : RequestVerdict) (k : Numbered) → request_number x ≡ k
    → request_number (when not a then Nothing else when not b then Nothing else x) ≡ (when not (a and b) then passed_over else k)
unfolding when◌then◌else◌ ◌and◌
by-lead true true x k p = p
by-lead true false x k p = refl
by-lead false b x k p = refl

module _ (s : Replica) (e : Entry) (latest : Latest) (out reps : ℕ) where
  known-number : (l : Latest) → request_number (known_verdict e l reps) ≡ kept_numbers e l reps
  unfolding known_verdict kept_numbers again_verdict again_numbers
  known-number Row.Nothing = refl
  known-number (Row.Waiting r) = refl
  known-number (Row.Answered r o) = by_two (ltb e.request r) (ltb reps 36) Nothing (Refuse NoRoomForReplies) (Resend o)

  new-number : request_number (new_verdict s out) ≡ new_numbers s out
  unfolding new_verdict new_numbers
  new-number = by_two (leb s.setup.room s.op.0) (ltb out (sends_of s)) (Refuse PastRoom) (Refuse NoRoomForMessages) Append

  pub request-number : request_number (request_verdict s e latest out reps) ≡ request_numbers s e latest out reps
  unfolding request_verdict client_verdict request_numbers
  request-number =
      by-lead (leads s) (is_normal s.status) _ _
      (by-new (is_new latest e.request) (new_verdict s out) (known_verdict e latest reps) _ _ new-number (known-number latest))

  pub weighs-request : (r : RequestVerdict) → r ≡ request_verdict s e latest out reps → WeighsRequest s e latest out reps r
  weighs-request r p = record { exact = p; number = ap request_number p ∙ request-number }

-- ---- Prepare

by_place : (past early full old : Bool)
    → prepare_number (when past then Transfer else when early then Again else when full then Q.Refuse PastRoom else when not old then Q.Refuse NotRising else Q.Append)
    ≡ (when past then numbered 0 (1 ∷ 0 ∷ []) else
    when early then numbered 0 (0 ∷ 0 ∷ []) else
    when full then numbered 4 [] else
    when not old then numbered 6 [] else
    numbered 0 (0 ∷ 1 ∷ []))
unfolding when◌then◌else◌
by_place true early full old = refl
by_place false true full old = refl
by_place false false true old = refl
by_place false false false true = refl
by_place false false false false = refl

module _ (s : Replica) (p : Prepared) where
  pub prepare-number : prepare_number (prepare_verdict s p) ≡ prepare_numbers s p
  unfolding prepare_verdict append_verdict prepare_numbers
  prepare-number =
      by_place (ltb (s.op.0 + 1) p.op.0) (ltb p.op.0 (s.op.0 + 1)) (leb s.setup.room s.op.0) (is_new p.latest p.entry.request)

  pub weighs-prepare : (r : P.PrepareVerdict) → r ≡ prepare_verdict s p → WeighsPrepare s p r
  weighs-prepare r q = record { exact = q; number = ap prepare_number q ∙ prepare-number }
