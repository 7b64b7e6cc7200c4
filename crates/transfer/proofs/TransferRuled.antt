-- NewState, GetState and the tick in StateTransfer keep the entry rules: what is appended or installed was carried by a frame that passed. Assumes nothing.
use Prim.Native.Nat.{ℕ, ◌+◌, ◌-◌, ◌*◌, ◌≤◌}
use native.Mathlib.Omega.{arith}
use mathlib.Core.Path.{◌≡◌, refl, subst}
use mathlib.Core.Bool.{true, false}
use mathlib.Core.List.{List}
use lib.ListN.{length, take, drop, length-drop}
use Rattle.numbers.specs.declared.View.{View}
use Rattle.numbers.proofs.WordLaws.{split}
use Rattle.entries.specs.Entries.{entries_ok}
use Rattle.entries.proofs.PlaceLaws.{place_is}
use Rattle.frames.specs.declared.Status.TheVariants.{Normal}
use Rattle.book.specs.Log.{with_entries}
use Rattle.book.proofs.EntryRules.{ok-back, part-ok}
use Rattle.state.specs.State.{heard_by, with_status, with_log, normal_in, with_clock}
use Rattle.state.specs.declared.Replica.{Replica}
use Rattle.steps.specs.Steps.{Left, settled}
use Rattle.transfer.specs.NewState.{with_part, use_of, extended, gap_filled, installed, by_use, new_state_step}
use Rattle.transfer.specs.declared.Part.{Part}
use Rattle.transfer.specs.declared.Use.{Use}
use Rattle.transfer.specs.declared.Use.TheVariants.{Ignore, Hear, Fill, Install}
use Rattle.transfer.proofs.NewStateLaws.{fill-told, install-told}
use Rattle.book.specs.Memory.{Memory}
use Rattle.steps.specs.Recorded.{of_left}
use Rattle.steps.proofs.Ruled.{Has, RuledBy, cleared, still, wrote, acked-left, asked-has, SentRuled}
use Rattle.numbers.specs.declared.Op.{Op}
use Rattle.clock.specs.declared.Clock.{Clock}
use Rattle.transfer.specs.GetState.{get_state_step}
use Rattle.transfer.specs.Tick.{transfer_tick}

module _ (s : Replica) (m : Memory) (h : Has s m) where
  abbrev LeftRuled : Left → Type 0
  LeftRuled d = RuledBy (of_left m d)

  -- k entries of `part` after our first n: the log then has z
  joined-ok : (n k z : ℕ) (part : List ℕ) → n ≤ s.op.0 → n + k ≡ z → z ≤ s.setup.room → 32 * k ≤ length part → entries_ok k part ≡ true
      → entries_ok z (with_entries n (take (32 * k) part) m.runs.log) ≡ true
  joined-ok n k z part g e r l ok =
      subst (λ (i : ℕ). entries_ok i (with_entries n (take (32 * k) part) m.runs.log) ≡ true) e
      (part-ok s.op.0 n k m.runs.log part g (omega (arith, place_is (n + k), e, r, h.log-long)) l h.log-ok ok)

  module _ (v : View) (p : Part) (part : List ℕ) (commits : s.commit.0 ≤ s.op.0) (starts : p.start.0 ≤ p.end.0)
      (ends : p.end.0 ≤ s.setup.room) (long : 32 * (p.end.0 - p.start.0) ≤ length part)
      (ok : entries_ok (p.end.0 - p.start.0) part ≡ true) where
    -- the excess alone
    abbrev rest : List ℕ
    rest = drop (32 * (s.op.0 - p.start.0)) part

    fill-ok : use_of s v p ≡ Fill
        → entries_ok p.end.0 (with_entries s.op.0 (take (32 * (p.end.0 - s.op.0)) rest) m.runs.log) ≡ true
    fill-ok e =
        let g = fill-told s v p e in
        let i : p.end.0 - p.start.0 - (s.op.0 - p.start.0) ≡ p.end.0 - s.op.0 = omega (arith, g.0, g.1) in
        joined-ok s.op.0 (p.end.0 - s.op.0) p.end.0 rest (omega arith) (omega (arith, g.1)) ends
        (rw length-drop (omega (arith, g.0, g.1, long)))
        (subst (λ (j : ℕ). entries_ok j rest ≡ true) i (ok-back (p.end.0 - p.start.0) (s.op.0 - p.start.0) part ok))

    install-ok : use_of s v p ≡ Install
        → entries_ok p.end.0 (with_entries s.commit.0 (take (32 * (p.end.0 - p.start.0)) part) m.runs.log) ≡ true
    install-ok e =
        let g = install-told s v p e in
        joined-ok s.commit.0 (p.end.0 - p.start.0) p.end.0 part commits (omega (arith, g, starts)) ends long ok

    use-ruled : (d : Use) → use_of s v p ≡ d → LeftRuled (by_use d s p part m.runs m.out)
    unfolding by_use gap_filled installed extended settled
    use-ruled Ignore e = still h
    use-ruled Hear e = still h
    use-ruled Fill e =
        split LeftRuled _ _ _ (λ _. still h) λ _.
        split LeftRuled _ _ _ (λ _. still h) λ a.
        acked-left LeftRuled s (with_log (with_status (heard_by s) Normal) p.end s.commit) p.commit false
        (with_part s.op.0 (p.end.0 - s.op.0) rest m.runs) m.out a (wrote h (fill-ok e))
    use-ruled Install e =
        split LeftRuled _ _ _ (λ _. still h) λ _.
        split LeftRuled _ _ _ (λ _. still h) λ a.
        acked-left LeftRuled s (with_log (normal_in s s.view) p.end s.commit) p.commit true
        (with_part s.commit.0 (p.end.0 - p.start.0) part m.runs) m.out a (wrote (cleared h) (install-ok e))

    pub new-state-ruled : RuledBy (of_left m (new_state_step s v p part m.runs m.out))
    unfolding new_state_step
    new-state-ruled = use-ruled (use_of s v p) refl

-- ---- what is only answered, and the tick

module _ (s : Replica) (m : Memory) (h : Has s m) where
  pub get-state-ruled : (r : ℕ) (v : View) (o : Op) → SentRuled m (get_state_step s r v o m.runs.log m.out)
  unfolding get_state_step
  get-state-ruled r v o =
      split (SentRuled m) _ _ _ (λ _. still h) λ _.
      split (SentRuled m) _ _ _ (λ _. still h) λ _. still h

  pub transfer-tick-ruled : (c : Clock) → SentRuled m (transfer_tick s c m.out)
  unfolding transfer_tick
  transfer-tick-ruled c = still (asked-has s m h (with_clock s c) s.op m.out h)
