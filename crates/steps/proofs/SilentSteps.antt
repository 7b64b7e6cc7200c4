-- The steps that the handlers share give no replies. Assumes nothing.
use mathlib.Core.Path.{◌≡◌, refl}
use mathlib.Core.Bool.{Bool}
use mathlib.Core.List.{List}
use Prim.Native.Nat.{ℕ}
use Rattle.numbers.specs.declared.View.{View}
use Rattle.numbers.specs.declared.Op.{Op}
use Rattle.numbers.proofs.WordLaws.{split}
use Rattle.state.specs.declared.Replica.{Replica}
use Rattle.steps.specs.Steps.{Spoke, Left, asked_for_state, transferred, deferred, committed_and_acked}
use Rattle.steps.specs.Replying.{Replying}
use Rattle.steps.specs.declared.Accept.{Accept}
use Rattle.steps.specs.declared.Accept.TheVariants.{Ignore, Hear, Join, Rejoin, Take}
use Rattle.steps.proofs.ReplyLaws.{silent}
use Rattle.book.specs.Memory.{Runs}
use Rattle.state.specs.Answers.{replies_written}

-- the area for replies is left alone by a call that counts none
pub still : {reps : List ℕ} (count : ℕ) → count ≡ 0 → Replying reps reps count
still count e = rw e silent

-- ---- messages alone

abbrev pub Mute : Spoke → Type 0
Mute d = replies_written d.answer ≡ 0

pub asked-mute : (s t : Replica) (at : Op) (out : List ℕ) → Mute (asked_for_state s t at out)
unfolding asked_for_state
asked-mute s t at out = split Mute _ _ _ (λ _. refl) (λ _. refl)

pub transferred-mute : (s : Replica) (out : List ℕ) → Mute (transferred s out)
unfolding transferred
transferred-mute s out = asked-mute s _ _ out

pub deferred-mute : (a : Accept) (s : Replica) (v : View) (out : List ℕ) → Mute (deferred a s v out)
unfolding deferred
deferred-mute Ignore s v out = refl
deferred-mute Hear s v out = refl
deferred-mute Join s v out = asked-mute s _ _ out
deferred-mute Rejoin s v out = asked-mute s _ _ out
deferred-mute Take s v out = refl

-- ---- PrepareOk

abbrev pub MuteLeft : Left → Type 0
MuteLeft d = replies_written d.answer ≡ 0

pub acked-mute : (s t : Replica) (k : Op) (installed : Bool) (x : Runs) (out : List ℕ) → MuteLeft (committed_and_acked s t k installed x out)
unfolding committed_and_acked
acked-mute s t k installed x out = split MuteLeft _ _ _ (λ _. refl) (λ _. refl)
