-- What stands behind a DoViewChange of ours, over any calls.
--     earned-from    from a state with no votes
--     earned         from a creation that was not refused
-- Assumes nothing.
use Prim.Native.Nat.{ℕ}
use mathlib.Core.Logic.{inl, inr}
use mathlib.Core.List.{List, [], ◌∷◌, ◌++◌}
use Rattle.numbers.specs.Words.{All}
use Rattle.config.specs.declared.Setup.{Setup}
use Rattle.model.specs.State.{State, Answer, after}
use Rattle.model.specs.Asked.{Voted, AllBacked}
use Rattle.model.proofs.AskedLaws.{Fair, new-voted, frame-fair, tick-fair, after-voted}
use Rattle.model.proofs.AskedLaws.Fair.{refusal, moved}
use Rattle.safety.specs.Demand.{Call, answer, run, Created}
use Rattle.safety.specs.Demand.Call.{frame, tick}
use Rattle.safety.specs.Earned.{Asks, AskedIn, sent_by, Earned}
use Rattle.safety.proofs.Runs.{created}

module _ (u : Setup) where
  -- ---- who asked in some calls asked in more of them

  asked-before : (cs ds : List Call) (v r : ℕ) → AskedIn u cs v r → AskedIn u (cs ++ ds) v r
  asked-before [] ds v r x' = elim x' [ ]
  asked-before (c ∷ cs) ds v r (inl a) = inl a
  asked-before (c ∷ cs) ds v r (inr a) = inr (asked-before cs ds v r a)

  asked-last : (cs : List Call) (c : Call) (v r : ℕ) → Asks u v r c → AskedIn u (cs ++ c ∷ []) v r
  asked-last [] c v r a = inl a
  asked-last (d ∷ cs) c v r a = inr (asked-last cs c v r a)

  -- ---- calls, Asked having who asks by them

  module _ (Asked : ℕ → ℕ → Type 0) where
    abbrev Counted : Call → Type 0
    Counted c = (v r : ℕ) → Asks u v r c → Asked v r

    all-counted : (cs : List Call) → ((v r : ℕ) → AskedIn u cs v r → Asked v r) → All Counted cs
    all-counted [] f = tt
    all-counted (c ∷ cs) f = (λ v r a. f v r (inl a), all-counted cs (λ v r a. f v r (inr a)))

    call-fair : (m : State) (c : Call) → Counted c → Fair u Asked m (answer u m c)
    unfolding answer
    call-fair m (frame s a b) f = frame-fair u Asked m s a b (λ v r. f v.0 r)
    call-fair m (tick a b) f = tick-fair u Asked m a b

    run-voted : (m : State) (cs : List Call) → All Counted cs → Voted u Asked m → Voted u Asked (run u m cs)
    unfolding run
    run-voted m [] f h = h
    run-voted m (c ∷ cs) f h = run-voted (after m (answer u m c)) cs f.1 (after-voted u Asked (call-fair m c f.0) h)

    sent-backed : {m : State} {x : Answer} → Fair u Asked m x → Voted u Asked m → AllBacked u Asked (sent_by x)
    unfolding sent_by
    sent-backed (refusal k) h = tt
    sent-backed (moved out rs g) h = (g h).1

  -- ---- any calls

  module _ (m : State) (no-votes : (Asked : ℕ → ℕ → Type 0) → Voted u Asked m) where
    reached-voted : (Asked : ℕ → ℕ → Type 0) (cs : List Call) → ((v r : ℕ) → AskedIn u cs v r → Asked v r) → Voted u Asked (run u m cs)
    reached-voted Asked cs f = run-voted Asked m cs (all-counted Asked cs f) (no-votes Asked)

    pub earned-from : (cs : List Call) (c : Call) → Earned u m cs c
    earned-from cs c =
        let Asked : ℕ → ℕ → Type 0 = AskedIn u (cs ++ c ∷ []) in
        record {
          voted = reached-voted (AskedIn u cs) cs (λ v r a. a);
          backed =
              sent-backed Asked (call-fair Asked (run u m cs) c (asked-last cs c)) (reached-voted Asked cs (asked-before cs (c ∷ [])));
        }

  pub earned : (m : State) → Created u m → (cs : List Call) (c : Call) → Earned u m cs c
  earned m from = earned-from m (λ Asked. created u (Voted u Asked) (λ _. new-voted u Asked) m from)
