-- StartView, and the start of a view change, keep the entry rules. Assumes nothing.
use Prim.Native.Nat.{ℕ, ◌≤◌, ◌+◌, ◌*◌}
use mathlib.Core.Path.{◌≡◌, refl, subst}
use mathlib.Core.Bool.{true}
use mathlib.Core.List.{List}
use lib.ListN.{length, take}
use Rattle.numbers.specs.declared.View.{View}
use Rattle.numbers.specs.declared.Op.{Op}
use Rattle.numbers.proofs.WordLaws.{split}
use Rattle.entries.specs.Entries.{entries_ok}
use Rattle.state.specs.State.{changing_to, with_log, normal_in}
use Rattle.state.specs.declared.Replica.{Replica}
use Rattle.steps.specs.Steps.{Spoke, Left, settled}
use Rattle.book.specs.Memory.{Memory}
use Rattle.view_change.specs.StartViewChange.{started_change}
use Rattle.view_change.specs.StartView.{sent_start_view, Joined, clearing, with_log_of, joined_by, start_view_step, of_joined}
use native.Mathlib.Nat.{zero-add}
use native.Mathlib.Omega.{arith}
use Rattle.entries.proofs.PlaceLaws.{place_is}
use Rattle.book.specs.Log.{with_entries}
use Rattle.book.proofs.EntryRules.{part-ok}
use Rattle.view_change.specs.StartView as StartView
use Rattle.view_change.specs.declared.StartViewVerdict.{StartViewVerdict}
use Rattle.view_change.specs.declared.StartViewVerdict.TheVariants as Verdicts
use Rattle.steps.proofs.Ruled.{Has, RuledBy, cleared, still, wrote, acked-left}

-- ---- messages alone

module _ (s : Replica) (m : Memory) (h : Has s m) where
  abbrev HasBy : Spoke → Type 0
  HasBy d = Has d.answer.state m

  pub started-has : (t : Replica) (v : View) (out : List ℕ) → Has (changing_to t v) m → Has (started_change s t v out).answer.state m
  unfolding started_change
  started-has t v out g = split HasBy _ _ _ (λ _. h) (λ _. g)

  pub start-view-has : (to : ℕ) (log out : List ℕ) → Has (sent_start_view s to log out).answer.state m
  unfolding sent_start_view
  start-view-has to log out = split HasBy _ _ _ (λ _. h) (λ _. h)

-- ---- StartView

module _ (s : Replica) (m : Memory) (h : Has s m) (v : View) (o c : Op) (part : List ℕ) (short : o.0 ≤ s.setup.room)
    (long : 32 * o.0 ≤ length part) (ok : entries_ok o.0 part ≡ true) where
  abbrev JoinedRuled : Joined → Type 0
  JoinedRuled d = RuledBy (of_joined m d)

  join-ok : entries_ok o.0 (with_entries 0 (take (32 * o.0) part) m.runs.log) ≡ true
  unfolding entries_ok
  join-ok =
      subst (λ (i : ℕ). entries_ok i (with_entries 0 (take (32 * o.0) part) m.runs.log) ≡ true) (zero-add o.0)
      (part-ok 0 0 o.0 m.runs.log part (omega arith) (omega (arith, place_is (0 + o.0), short, h.log-long)) long refl ok)

  verdict-ruled : (d : StartViewVerdict) → JoinedRuled (StartView.by_start_view_verdict d s v o c part m.runs m.acks m.out)
  unfolding StartView.by_start_view_verdict joined_by settled
  verdict-ruled Verdicts.Ignore = still h
  verdict-ruled Verdicts.Refuse = still h
  verdict-ruled Verdicts.Join =
      split JoinedRuled _ _ _ (λ _. still h) λ a.
      acked-left (λ (d : Left). JoinedRuled (clearing s m.acks d)) s (with_log (normal_in s v) o s.commit) c true
      (with_log_of o part m.runs) m.out a (wrote (cleared h) join-ok)

  pub start-view-ruled : RuledBy (of_joined m (start_view_step s v o c part m.runs m.acks m.out))
  unfolding start_view_step
  start-view-ruled = verdict-ruled (StartView.start_view_verdict s v o part m.runs.log)
