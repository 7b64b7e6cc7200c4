-- Demands 1 and 3 at the C boundary, from the replica's own.
--     message-run-untouched, tick-run-untouched, create-run-untouched, recover-run-untouched    demand 1
--     linked, chained    a call, and a chain of them, are the replica's of what the runs hold
--     run-chain-goes, run-demand-3, run-demand-3-recovered    demand 3, from any state that calls produced, and from a creation
-- Assumes nothing.
use mathlib.Core.Path.{◌≡◌, refl, sym, ap, ◌∙◌, subst}
use mathlib.Core.Bool.{Bool, true, not}
use mathlib.Core.List.{List, [], ◌∷◌}
use Prim.Native.Nat.{ℕ}
use native.Mathlib.Omega.{arith}
use borrow.Author.Tests.{ne_eqb}
use Rattle.numbers.specs.Words.{when◌then◌else◌}
use Rattle.numbers.specs.declared.View.{View}
use Rattle.numbers.proofs.WordLaws.{split, if-true, if-false}
use Rattle.entries.specs.declared.Entry.{Entry}
use Rattle.config.specs.declared.Setup.{Setup}
use Rattle.state.specs.declared.Replica.{Replica}
use Rattle.state_bytes.specs.Layout.{state_of, state_ok}
use Rattle.safety.specs.Demand.{Call}
use Rattle.outside.specs.Sound.{no_replica}
use Rattle.outside.specs.Takings.{takings_call}
use Rattle.std.specs.Prelude.{Result, Ok, Err}
use Rattle.frames.specs.declared.Refusal.{Refusal}
use Rattle.replica.specs.Calls.{message_call, idle_call, create_call, recover_call}
use Rattle.replica.specs.Lent.{Lent, Called}
use Rattle.replica.specs.Meaning.{Kept, meaning_of}
use Rattle.replica.specs.Promise.{TakingsPromise}
use Rattle.replica.specs.Again.{AnswersIn}
use Rattle.replica.specs.Demands.{Untouched, HandedBack, Link, Chain, FullAddition}
use Rattle.replica.specs.Demands.Link.{message, tick}
use Rattle.replica.specs.Demands.Chain.{none, more}
use Rattle.replica.specs.Backed.{call_by, calls_in}
use Rattle.replica.proofs.DemandLaws.{message-untouched, tick-untouched, handed-kept, chain-goes}
use Rattle.replica.proofs.CreateDemands.{create-untouched, recover-untouched}
use Rattle.whitherhaul.specs.Replicas.{Ran, ran, kept_state, leaves, no_state, message_run, idle_run, create_run, recover_run, takings_run, SumTold, told_as, sum_told, StateHeld}
use Rattle.whitherhaul.specs.Replicas.{MessageRan, IdleRan, CreateRan, RecoverRan, TakingsRan}
use Rattle.whitherhaul.specs.Again.{RunAnswersIn}
use Rattle.whitherhaul.specs.Demands.{UntouchedRun, RunLink, RunChain, RunGoesOn}
use Rattle.whitherhaul.specs.Demands.RunLink.{message as sent, tick as idled}
use Rattle.whitherhaul.specs.Demands.RunChain.{none as no_run, more as more-runs}
use Rattle.whitherhaul.specs.Backed.{run_call_by, run_calls_in}
use Rattle.state.specs.Answers.{outcome_code, code_of, messages_written, replies_written}
use Rattle.frames.proofs.RefusalLaws.{number-some}
use Rattle.frames.specs.Refusals.{number_of}
use Rattle.whitherhaul.proofs.ReplicaLaws.{refusal-there}

-- ---- demand 1

module _ (state : List ℕ) (x : Lent) where
  -- what a call of the replica that left all as it was leaves here
  leaves-untouched : (s : Replica) (d : Called) → Untouched s x d → UntouchedRun state x (leaves state d)
  unfolding kept_state
  leaves-untouched s d u n =
      let z = refusal-there d.answer.outcome n in
      ap (leaves state) (u z.0 z.1)
      ∙ ap (λ (l : List ℕ). ran (number_of z.0) (0 ∷ 0 ∷ []) l x) (if-false _ _ _ (ne_eqb (number_of z.0) 0 (number-some z.0)))
      ∙ ap (λ (j : ℕ). ran j (0 ∷ 0 ∷ []) state x) (sym (ap outcome_code z.1))

  pub message-run-untouched : (frame : List ℕ) (d : Ran) → MessageRan state frame x d → UntouchedRun state x d
  unfolding message_run
  message-run-untouched frame d p =
      subst (UntouchedRun state x) (sym p.exact)
      (split (UntouchedRun state x) _ _ _ (λ _ n. refl)
      (λ _. leaves-untouched (state_of state) _ (message-untouched (state_of state) x frame _ p.call)))

  pub tick-run-untouched : (d : Ran) → IdleRan state x d → UntouchedRun state x d
  unfolding idle_run
  tick-run-untouched d p =
      subst (UntouchedRun state x) (sym p.exact)
      (split (UntouchedRun state x) _ _ _ (λ _ n. refl)
      (λ _. leaves-untouched (state_of state) _ (tick-untouched (state_of state) x _ p.call)))

  pub create-run-untouched : (u : Setup) (d : Ran) → CreateRan u state x d → UntouchedRun state x d
  unfolding create_run
  create-run-untouched u d p =
      subst (UntouchedRun state x) (sym p.exact)
      (split (UntouchedRun state x) _ _ _ (λ _ n. refl) (λ _. leaves-untouched no_replica _ (create-untouched u x _ p.call)))

  pub recover-run-untouched : (u : Setup) (v : View) (nonce : ℕ) (d : Ran) → RecoverRan u v nonce state x d → UntouchedRun state x d
  unfolding recover_run
  recover-run-untouched u v nonce d p =
      subst (UntouchedRun state x) (sym p.exact)
      (split (UntouchedRun state x) _ _ _ (λ _ n. refl) (λ _. leaves-untouched no_replica _ (recover-untouched u v nonce x _ p.call)))

-- ---- demand 3

-- a call of a run that holds a state is the replica's: what it answers is in the run, and what it leaves is left
pub record Linked (state : List ℕ) (x : Lent) (d : Ran) (l : RunLink state x d) : Type 0 where
  pub call : Called
  pub link : Link (state_of state) x call
  pub held : StateHeld d.state call.answer.state
  pub lent : d.lent ≡ call.lent
  pub counts : d.counts ≡ messages_written call.answer ∷ replies_written call.answer ∷ []
  pub is : call_by (state_of state) x call link ≡ run_call_by state x d l

pub linked : (state : List ℕ) (x : Lent) (d : Ran) → state_ok state ≡ true → (l : RunLink state x d) → Linked state x d l
unfolding message_run idle_run
linked state x d ok (sent frame b o p) =
    let c = message_call (state_of state) frame x in
    record {
      call = c;
      link = message frame b o p.call;
      held = p.next ok;
      lent = ap (λ (z : Ran). z.lent) (p.exact ∙ if-false _ _ _ (ap not ok));
      counts = ap (λ (z : Ran). z.counts) (p.exact ∙ if-false _ _ _ (ap not ok));
      is = refl;
    }
linked state x d ok (idled o p) =
    let c = idle_call (state_of state) x in
    record {
      call = c;
      link = tick o p.call;
      held = p.next ok;
      lent = ap (λ (z : Ran). z.lent) (p.exact ∙ if-false _ _ _ (ap not ok));
      counts = ap (λ (z : Ran). z.counts) (p.exact ∙ if-false _ _ _ (ap not ok));
      is = refl;
    }

-- a chain of runs is a chain of what they hold
pub record Chained (state : List ℕ) (x : Lent) (state' : List ℕ) (x' : Lent) (calls : List Call) : Type 0 where
  pub ok : state_ok state' ≡ true
  pub chain : Chain (state_of state') x' (state_of state) x
  pub is : calls_in (state_of state') x' (state_of state) x chain ≡ calls

-- a chain from an equal state has the same calls
moved-calls : (s' : Replica) (x' : Lent) (s t : Replica) (x : Lent) (p : s ≡ t) (c : Chain s' x' s x)
    → calls_in s' x' t x (subst (λ (r : Replica). Chain s' x' r x) p c) ≡ calls_in s' x' s x c
moved-calls s' x' s t x p c = sym (λ i. calls_in s' x' (p i) x (coe 0 i (j. Chain s' x' (p j) x) c))

pub chained : (state' : List ℕ) (x' : Lent) (state : List ℕ) (x : Lent) → state_ok state ≡ true → (c : RunChain state' x' state x)
    → Chained state x state' x' (run_calls_in state' x' state x c)
chained state' x' state x ok no_run = record { ok = ok; chain = none; is = refl }
chained state' x' state x ok (more-runs _ _ d y l h c) =
    let t = linked state x d ok l in
    let r = chained state' x' d.state y t.held.ok c in
    record {
      ok = r.ok;
      chain =
          more _ _ t.call y t.link (subst (λ (z : Lent). HandedBack z y) t.lent h)
          (subst (λ (s : Replica). Chain (state_of state') x' s y) t.held.back r.chain);
      is = λ i. t.is i ∷ (moved-calls _ _ _ _ _ t.held.back r.chain ∙ r.is) i;
    }

-- who asks again is answered what the replica's own call answers
run-again : (state : List ℕ) (x : Lent) (applied : List Entry) → state_ok state ≡ true → AnswersIn (state_of state) x applied → RunAnswersIn state x applied
unfolding message_run
run-again state x applied ok f frame d e i b o p q h =
    let c = message_call (state_of state) frame x in
    let w = f frame c e i b o p.call q h in
    let is : d ≡ leaves state c = p.exact ∙ if-false _ _ _ (ap not ok) in
    record {
      code = ap (λ (r : Ran). r.code) is ∙ w.code;
      counts = ap (λ (r : Ran). r.counts) is ∙ (λ j. w.messages j ∷ w.replies j ∷ []);
      out = ap (λ (r : Ran). r.lent.core.out) is ∙ w.out;
      reps = ap (λ (r : Ran). r.lent.core.reps) is ∙ w.reps;
      same = (λ j. meaning_of ((p.next ok).back j) (is j).lent applied) ∙ w.same;
    }

-- who asks for the takings is answered what the replica's own call answers
run-takings : (state : List ℕ) (x : Lent) (applied : List Entry) → state_ok state ≡ true → (r : SumTold) → TakingsRan state r
    → ((t : Result ℕ Refusal) → TakingsPromise (state_of state) t → FullAddition (state_of state) x applied t)
    → (r.code ≡ 0) × FullAddition (state_of state) x applied (Ok r.cents)
unfolding takings_run
run-takings state x applied ok r p f =
    let full = f (takings_call (state_of state)) p.call in
    let is : r ≡ told_as 0 full.cents = p.exact ∙ if-true _ _ _ ok ∙ ap sum_told full.answered in
    let same : takings_call (state_of state) ≡ Ok r.cents = full.answered ∙ ap Ok (sym (ap (λ (t : SumTold). t.cents) is)) in
    (ap (λ (t : SumTold). t.code) is, subst (FullAddition (state_of state) x applied) same full)

pub run-chain-goes : (state : List ℕ) (x : Lent) (applied : List Entry) (state' : List ℕ) (x' : Lent) → state_ok state ≡ true
    → Kept (state_of state) x applied → RunChain state' x' state x → RunGoesOn state x applied state' x'
run-chain-goes state x applied state' x' ok k c =
    let r = chained state' x' state x ok c in
    let g = chain-goes (state_of state) x applied (state_of state') x' k r.chain in
    record { ok = r.ok; goes = g; takings = λ t p. run-takings state' x' g.applied' r.ok t p g.takings; again = run-again state' x' g.applied' r.ok g.again }

-- what a creation that wasn't refused left, handed back
pub begun : (state : List ℕ) (y : Lent) (c : Called) (d : Ran) → d ≡ leaves state c → StateHeld d.state c.answer.state
    → (code_of c.answer ≡ 0 → Kept c.answer.state c.lent []) → d.code ≡ 0 → HandedBack d.lent y → Kept (state_of d.state) y []
begun state y c d e held keeps z h =
    let k = keeps (sym (ap (λ (r : Ran). r.code) e) ∙ z) in
    let l = subst (λ (m : Lent). Kept c.answer.state m []) (sym (ap (λ (r : Ran). r.lent) e)) k in
    handed-kept _ _ _ _ h (subst (λ (s : Replica). Kept s d.lent []) (sym held.back) l)

not-0 : ◌≡◌ {A = ℕ} 1 0 → ⊥
not-0 e = absurd (omega (arith, e))

-- one that is done was not refused for its state run
pub done-leaves : (state : List ℕ) (x : Lent) (b : Bool) (c : Called) (d : Ran) → d ≡ (when b then no_state state x else leaves state c) → d.code ≡ 0
    → d ≡ leaves state c
done-leaves state x b c d e z =
    split (λ (r : Ran). d ≡ r → d ≡ leaves state c) b _ _ (λ _ f. absurd (not-0 (sym (ap (λ (r : Ran). r.code) f) ∙ z))) (λ _ f. f) e

-- from a creation, or a recovery, that wasn't refused
pub run-demand-3 : (u : Setup) (state : List ℕ) (x : Lent) (d : Ran) (y : Lent) (state' : List ℕ) (z : Lent) → CreateRan u state x d → d.code ≡ 0
    → HandedBack d.lent y → RunChain state' z d.state y → RunGoesOn d.state y [] state' z
unfolding create_run
run-demand-3 u state x d y state' z p e h c =
    let b = begun state y (create_call u x) d (done-leaves state x _ _ d p.exact e) (p.next e) p.call.keeps e h in
    run-chain-goes _ _ _ _ _ (p.next e).ok b c

pub run-demand-3-recovered : (u : Setup) (v : View) (nonce : ℕ) (state : List ℕ) (x : Lent) (d : Ran) (y : Lent) (state' : List ℕ) (z : Lent)
    → RecoverRan u v nonce state x d → d.code ≡ 0 → HandedBack d.lent y → RunChain state' z d.state y
    → RunGoesOn d.state y [] state' z
unfolding recover_run
run-demand-3-recovered u v nonce state x d y state' z p e h c =
    let b = begun state y (recover_call u v nonce x) d (done-leaves state x _ _ d p.exact e) (p.next e) p.call.keeps e h in
    run-chain-goes _ _ _ _ _ (p.next e).ok b c
