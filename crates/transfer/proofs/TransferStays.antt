-- NewState and GetState keep what refusal 1 asks. Assumes nothing.
use mathlib.Core.Path.{◌≡◌, refl}
use mathlib.Core.Bool.{true, false}
use mathlib.Core.List.{List}
use Prim.Native.Nat.{ℕ, ◌-◌, ◌*◌, ◌≤◌}
use native.Mathlib.Omega.{arith}
use lib.ListN.{length, drop, length-drop}
use Rattle.numbers.specs.declared.View.{View}
use Rattle.numbers.proofs.WordLaws.{split}
use Rattle.frames.specs.declared.Status.TheVariants.{Normal}
use Rattle.state.specs.State.{heard_by, with_status, with_log, normal_in}
use Rattle.state.specs.declared.Replica.{Replica}
use Rattle.steps.specs.Steps.{Left, Spoke}
use Rattle.book.specs.Memory.{Runs}
use Rattle.transfer.specs.NewState.{PartPassed, with_part, use_of, extended, gap_filled, installed, by_use, new_state_step}
use Rattle.transfer.specs.declared.Part.{Part}
use Rattle.transfer.specs.declared.Use.{Use}
use Rattle.transfer.specs.declared.Use.TheVariants.{Ignore, Hear, Fill, Install}
use Rattle.transfer.proofs.NewStateLaws.{fill-told, install-told, fill-fits, install-fits}
use Rattle.state.proofs.SoundLaws.{none-gathered}
use Rattle.steps.proofs.Held.{Held, heard-held, acked-held}
use Rattle.numbers.specs.declared.Op.{Op}
use Rattle.transfer.specs.GetState.{get_state_step}

module _ (s : Replica) (x : Runs) (h : Held s.setup s x) (out : List ℕ) where
  abbrev HeldBy : Left → Type 0
  HeldBy d = Held s.setup d.answer.state d.runs

  module _ (v : View) (p : Part) (part : List ℕ) (c : PartPassed s p) (l : 32 * (p.end.0 - p.start.0) ≤ length part) where
    fill-held : use_of s v p ≡ Fill
        → Held s.setup (with_log (with_status (heard_by s) Normal) p.end s.commit)
        (with_part s.op.0 (p.end.0 - s.op.0) (drop (32 * (s.op.0 - p.start.0)) part) x)
    fill-held e =
        let g = fill-told s v p e in
        let rest = drop (32 * (s.op.0 - p.start.0)) part in
        let n : 32 * (p.end.0 - s.op.0) ≤ length rest = rw length-drop (omega (arith, g.0, g.1, l)) in
        record { sound = (fill-fits s p rest x h.sound c _ g.1 n refl).0; setup = refl; reports = h.reports }

    install-held : use_of s v p ≡ Install
        → Held s.setup (with_log (normal_in s s.view) p.end s.commit) (with_part s.commit.0 (p.end.0 - p.start.0) part x)
    install-held e =
        record {
          sound = (install-fits s p part x h.sound c _ (install-told s v p e) l refl).0;
          setup = refl;
          reports = none-gathered s.setup;
        }

    use-held : (u : Use) → use_of s v p ≡ u → HeldBy (by_use u s p part x out)
    unfolding by_use gap_filled installed extended
    use-held Ignore e = h
    use-held Hear e = heard-held h
    use-held Fill e =
        split HeldBy _ _ _ (λ _. h) (λ _.
        split HeldBy _ _ _ (λ _. h) (λ _. acked-held p.commit false out h (fill-held e) c.commit-le))
    use-held Install e =
        split HeldBy _ _ _ (λ _. h) (λ _.
        split HeldBy _ _ _ (λ _. h) (λ _. acked-held p.commit true out h (install-held e) c.commit-le))

    pub new-state-held : HeldBy (new_state_step s v p part x out)
    unfolding new_state_step
    new-state-held = use-held (use_of s v p) refl

-- GetState only answers
pub get-state-held : {s : Replica} {x : Runs} → Held s.setup s x → (r : ℕ) (v : View) (o : Op) (log out : List ℕ)
    → Held s.setup (get_state_step s r v o log out).answer.state x
unfolding get_state_step
get-state-held {s} {x} h r v o log out = split P _ _ _ (λ _. h) (λ _. split P _ _ _ (λ _. h) (λ _. h))
  where
    P : Spoke → Type 0
    P d = Held s.setup d.answer.state x
