-- The promises of the replica's calls, from what the replica's own calls and `keep` promise.
--     keep-refused, keep-done                                      the state run after a call
--     no-message, no-tick, no-creation, no-recovery                a run that holds no state, or has another length
--     create-unsized, recover-unsized                              a setup outside the sizes
--     message-ran, idle-ran, create-ran, recover-ran               a call of the replica
--     usual-kept, leading-kept                                     what a usual call leaves of the state
--     may-short, may-long, may-is    what is looked at before
--     no-takings, takings-ran                                      the takings
-- Assumes nothing.
use mathlib.Core.Path.{◌≡◌, refl, sym, ap, ◌∙◌, subst}
use mathlib.Core.Bool.{Bool, true, false, not, false≢true}
use mathlib.Core.List.{List, [], ◌∷◌}
use mathlib.Core.Logic.{⊎_elim}
use Prim.Native.Nat.{ℕ, ◌≤◌, ◌<◌}
use native.Mathlib.Omega.{arith}
use lib.ListN.{length}
use borrow.Author.Tests.{ne_eqb, eq-eqb, not-false, lt-ltb, le-ltb, ltb-false}
use Rattle.numbers.specs.Words.{when◌then◌else◌}
use Rattle.numbers.specs.declared.View.{View}
use Rattle.numbers.proofs.WordLaws.{if-true, if-false, split}
use Rattle.numbers.proofs.NumberLaws.{eq-or-not}
use Rattle.config.specs.Setup.{setup_ok}
use Rattle.config.specs.declared.Setup.{Setup}
use Rattle.state.specs.Answers.{refusal, code_of, messages_written, replies_written, outcome_code}
use Rattle.state.specs.declared.Returned.{Returned}
use Rattle.state.specs.declared.Replica.{Replica}
use Rattle.state_bytes.specs.Layout.{state_of, Onward, Clocked, state_ok, HoldsState}
use Rattle.usual.specs.Usual.{is_usual, is_leading}
use Rattle.usual.proofs.UsualLaws.{usual-onward, leading-clocked}
use Rattle.outside.specs.Sound.{no_replica}
use Rattle.outside.specs.Creation.{Started, create_step}
use Rattle.outside.specs.Takings.{takings_call}
use Rattle.std.specs.Prelude.{Result, Ok, Err}
use Rattle.frames.specs.declared.Refusal.{Refusal}
use Rattle.replica.specs.Calls.{message_call, idle_call, cleared, create_call, recover_call}
use Rattle.replica.specs.Lent.{Lent, Called, called}
use Rattle.replica.specs.Promise.{MessagePromise, IdlePromise, CreatePromise, RecoverPromise, TakingsPromise}
use Rattle.replica.specs.Demands.{Untouched}
use Rattle.replica.proofs.PromiseLaws.{message-promised, idle-promised, create-promised, recover-promised}
use Rattle.replica.proofs.TakingsLaws.{takings-promised}
use Rattle.replica.proofs.DemandLaws.{message-untouched, tick-untouched}
use Rattle.replica.proofs.CreateDemands.{create-outside, recover-outside}
use Rattle.whitherhaul.specs.Replicas.{Ran, ran, kept_state, leaves, message_run, idle_run, create_run, recover_run, takings_run, told_as, sum_told, StateHeld, KeptIn, may_be_usual}
use Rattle.whitherhaul.specs.Replicas.{MessageRan, IdleRan, CreateRan, RecoverRan, TakingsRan}
use Rattle.frames.specs.declared.Refusal.TheVariants.{OutOfRange}
use Rattle.frames.proofs.RefusalLaws.{number-some}
use Rattle.frames.specs.Refusals.{number_of}
use Rattle.state.specs.declared.Output.{Output}

-- ---- keep

pub keep-refused : (a : Returned) (state : List ℕ) {k : Refusal} {code : ℕ} → a.outcome ≡ Err k → code ≡ number_of k → KeptIn a state state code
unfolding kept_state
keep-refused a state {k} e h =
    let is : code_of a ≡ number_of k = ap outcome_code e in
    let some : code_of a ≡ 0 → ⊥ = λ z. number-some k (sym is ∙ z) in
    record { number = h ∙ sym is; bytes = sym (if-false _ _ _ (ne_eqb (code_of a) 0 some)); holds = λ z. absurd (some z) }

pub keep-done : (a : Returned) (before : List ℕ) {after : List ℕ} → code_of a ≡ 0 → HoldsState a.state after → KeptIn a before after 0
unfolding kept_state
keep-done a before z h =
    record { number = sym z; bytes = h.bytes ∙ sym (if-true _ _ _ (eq-eqb (code_of a) 0 z)); holds = λ _. h }

-- an answer whose number isn't 0 is a refusal
pub refusal-there : (o : Result Output Refusal) → (outcome_code o ≡ 0 → ⊥) → (k : Refusal) × (o ≡ Err k)
refusal-there (Ok d) h = absurd (h refl)
refusal-there (Err k) h = (k, refl)

-- ---- what a call leaves

module _ (a : Returned) (y : Lent) {before after : List ℕ} {code : ℕ} (k : KeptIn a before after code) (d : Called) (e : called a y ≡ d) where
  left : ran code (messages_written a ∷ replies_written a ∷ []) after y ≡ leaves before d
  left =
      (λ i. ran (k.number i) (messages_written a ∷ replies_written a ∷ []) (k.bytes i) y) ∙ ap (leaves before) e

  code_is : code ≡ code_of d.answer
  code_is = k.number ∙ ap (λ (x : Called). (code_of x.answer)) e

  -- the state of a call that wasn't refused is in the run
  done_held : code_of a ≡ 0 → StateHeld after d.answer.state
  done_held z =
      let h = k.holds z in
      record { ok = h.ok; back = h.back ∙ ap (λ (x : Called). x.answer.state) e }

  -- a refused call leaves state and run as they were
  held : (s : Replica) (x : Lent) → s ≡ state_of before → Untouched s x d → state_ok before ≡ true → StateHeld after d.answer.state
  unfolding kept_state
  held s x r u ok =
      ⊎_elim done_held
      (λ h.
      let same : after ≡ before = k.bytes ∙ if-false _ _ _ (ne_eqb (code_of a) 0 h) in
      let n : code_of d.answer ≡ 0 → ⊥ = λ z. h (ap (λ (x : Called). (code_of x.answer)) e ∙ z) in
      let z = refusal-there d.answer.outcome n in
      record { ok = rw same ok; back = rw same (sym r ∙ sym (ap (λ (x : Called). x.answer.state) (u z.0 z.1))) })
      (eq-or-not (code_of a) 0)

-- ---- on_message, on_idle

module _ (state frame : List ℕ) (x : Lent) where
  pub no-message : state_ok state ≡ false → MessageRan state frame x (ran 1 (0 ∷ 0 ∷ []) state x)
  unfolding message_run
  no-message h =
      record {
        exact = sym (if-true _ _ _ (ap not h));
        next = λ ok. absurd (false≢true (sym h ∙ ok));
        call = message-promised (state_of state) frame x _ refl;
      }

  pub message-ran : (s : Replica) (a : Returned) (y : Lent) {after : List ℕ} {code : ℕ} → state_ok state ≡ true → s ≡ state_of state
      → MessagePromise s frame x (called a y) → KeptIn a state after code → MessageRan state frame x (ran code (messages_written a ∷ replies_written a ∷ []) after y)
  unfolding message_run
  message-ran s a y ok r p k =
      let d = message_call (state_of state) frame x in
      let e : called a y ≡ d = p.exact ∙ ap (λ (t : Replica). message_call t frame x) r in
      let call = message-promised (state_of state) frame x d refl in
      record {
        exact = left a y k d e ∙ sym (if-false _ _ _ (ap not ok));
        next = held a y k d e (state_of state) x refl (message-untouched (state_of state) x frame d call);
        call = call;
      }

module _ (state : List ℕ) (x : Lent) where
  pub no-tick : state_ok state ≡ false → IdleRan state x (ran 1 (0 ∷ 0 ∷ []) state x)
  unfolding idle_run
  no-tick h =
      record {
        exact = sym (if-true _ _ _ (ap not h));
        next = λ ok. absurd (false≢true (sym h ∙ ok));
        call = idle-promised (state_of state) x _ refl;
      }

  pub idle-ran : (s : Replica) (a : Returned) (y : Lent) {after : List ℕ} {code : ℕ} → state_ok state ≡ true → s ≡ state_of state
      → IdlePromise s x (called a y) → KeptIn a state after code → IdleRan state x (ran code (messages_written a ∷ replies_written a ∷ []) after y)
  unfolding idle_run
  idle-ran s a y ok r p k =
      let d = idle_call (state_of state) x in
      let e : called a y ≡ d = p.exact ∙ ap (λ (t : Replica). idle_call t x) r in
      let call = idle-promised (state_of state) x d refl in
      record {
        exact = left a y k d e ∙ sym (if-false _ _ _ (ap not ok));
        next = held a y k d e (state_of state) x refl (tick-untouched (state_of state) x d call);
        call = call;
      }

-- ---- the usual calls

module _ (state : List ℕ) (x : Lent) (s : Replica) (r : s ≡ state_of state) (a : Returned) (y : Lent) where
  pub usual-kept : (frame : List ℕ) → is_usual s frame ≡ true → MessagePromise s frame x (called a y) → Onward (state_of state) a.state
  usual-kept frame u p =
      subst (λ (t : Replica). Onward t a.state) r
      (subst (λ (d : Called). Onward s d.answer.state) (sym p.exact) (usual-onward s frame x u))

  pub leading-kept : is_leading s ≡ true → IdlePromise s x (called a y) → Clocked (state_of state) a.state
  leading-kept u p =
      subst (λ (t : Replica). Clocked t a.state) r
      (subst (λ (d : Called). Clocked s d.answer.state) (sym p.exact) (leading-clocked s x u))

-- ---- new, recover

not-0 : ◌≡◌ {A = ℕ} 1 0 → ⊥
not-0 e = absurd (omega (arith, e))

-- a creation sends nothing
create-sends : (u : Setup) (x : Lent) → ((messages_written (create_call u x).answer) ≡ 0) × ((replies_written (create_call u x).answer) ≡ 0)
unfolding create_call cleared create_step
create-sends u x = split (λ (d : Started). (messages_written d.answer ≡ 0) × (replies_written d.answer ≡ 0)) _ _ _ (λ _. (refl, refl)) (λ _. (refl, refl))

-- what one that is refused by 1 leaves
outside-leaves : (state : List ℕ) (x : Lent) → leaves state (called (refusal OutOfRange no_replica) x) ≡ ran 1 (0 ∷ 0 ∷ []) state x
unfolding kept_state when◌then◌else◌
outside-leaves state x = refl

module _ (u : Setup) (state : List ℕ) (x : Lent) where
  pub no-creation : (length state ≡ 154 → ⊥) → CreateRan u state x (ran 1 (0 ∷ 0 ∷ []) state x)
  unfolding create_run
  no-creation h =
      record {
        exact = sym (if-true _ _ _ (ap not (ne_eqb (length state) 154 h)));
        next = λ z. absurd (not-0 z);
        call = create-promised u x _ refl;
      }

  pub create-unsized : setup_ok u ≡ false → CreateRan u state x (ran 1 (0 ∷ 0 ∷ []) state x)
  unfolding create_run
  create-unsized h =
      record {
        exact =
            split (λ (d : Ran). ran 1 (0 ∷ 0 ∷ []) state x ≡ d) _ _ _ (λ _. refl)
            (λ _. sym (outside-leaves state x) ∙ ap (leaves state) (sym (create-outside u x h)));
        next = λ z. absurd (not-0 z);
        call = create-promised u x _ refl;
      }

  pub create-ran : (w : Setup) (a : Returned) (y : Lent) {after : List ℕ} {code : ℕ} → length state ≡ 154 → w ≡ u
      → CreatePromise w x (called a y) → KeptIn a state after code → CreateRan u state x (ran code (0 ∷ 0 ∷ []) after y)
  unfolding create_run
  create-ran w a y {after} {code} l same q k =
      let p = subst (λ (z : Setup). CreatePromise z x (called a y)) same q in
      let d = create_call u x in
      let sends = create-sends u x in
      let m : 0 ≡ messages_written a = sym sends.0 ∙ sym (ap (λ (z : Called). (messages_written z.answer)) p.exact) in
      let r : 0 ≡ replies_written a = sym sends.1 ∙ sym (ap (λ (z : Called). (replies_written z.answer)) p.exact) in
      record {
        exact = (λ i. ran code (m i ∷ r i ∷ []) after y) ∙ left a y k d p.exact ∙ sym (if-false _ _ _ (ap not (eq-eqb (length state) 154 l)));
        next = λ z. done_held a y k d p.exact (sym k.number ∙ z);
        call = create-promised u x d refl;
      }

module _ (u : Setup) (v : View) (nonce : ℕ) (state : List ℕ) (x : Lent) where
  pub no-recovery : (length state ≡ 154 → ⊥) → RecoverRan u v nonce state x (ran 1 (0 ∷ 0 ∷ []) state x)
  unfolding recover_run
  no-recovery h =
      record {
        exact = sym (if-true _ _ _ (ap not (ne_eqb (length state) 154 h)));
        next = λ z. absurd (not-0 z);
        call = recover-promised u v nonce x _ refl;
      }

  pub recover-unsized : setup_ok u ≡ false → RecoverRan u v nonce state x (ran 1 (0 ∷ 0 ∷ []) state x)
  unfolding recover_run
  recover-unsized h =
      record {
        exact =
            split (λ (d : Ran). ran 1 (0 ∷ 0 ∷ []) state x ≡ d) _ _ _ (λ _. refl)
            (λ _. sym (outside-leaves state x) ∙ ap (leaves state) (sym (recover-outside u x h v nonce)));
        next = λ z. absurd (not-0 z);
        call = recover-promised u v nonce x _ refl;
      }

  pub recover-ran : (w : Setup) (a : Returned) (y : Lent) {after : List ℕ} {code : ℕ} → length state ≡ 154 → w ≡ u
      → RecoverPromise w v nonce x (called a y) → KeptIn a state after code → RecoverRan u v nonce state x (ran code (messages_written a ∷ replies_written a ∷ []) after y)
  unfolding recover_run
  recover-ran w a y l same q k =
      let p = subst (λ (z : Setup). RecoverPromise z v nonce x (called a y)) same q in
      let d = recover_call u v nonce x in
      record {
        exact = left a y k d p.exact ∙ sym (if-false _ _ _ (ap not (eq-eqb (length state) 154 l)));
        next = λ z. done_held a y k d p.exact (sym k.number ∙ z);
        call = recover-promised u v nonce x d refl;
      }

-- ---- a frame that may be a usual one

fails : (a b : Bool) → (when a then false else b) ≡ true → (a ≡ false) × (b ≡ true)
unfolding when◌then◌else◌
fails true b p = absurd (false≢true p)
fails false b p = (refl, p)

pub may-short : (quiet : Bool) (frame : List ℕ) → length frame < 7 → false ≡ may_be_usual quiet frame
unfolding may_be_usual
may-short quiet frame h = sym (if-true _ _ _ (lt-ltb (length frame) 7 h))

pub may-long : (quiet : Bool) (frame : List ℕ) → 7 ≤ length frame → quiet ≡ may_be_usual quiet frame
unfolding may_be_usual
may-long quiet frame h = sym (if-false _ _ _ (le-ltb (length frame) 7 h))

pub may-is : (quiet : Bool) (frame : List ℕ) {b : Bool} → b ≡ may_be_usual quiet frame → not b ≡ false → (7 ≤ length frame) × (quiet ≡ true)
unfolding may_be_usual
may-is quiet frame {b} e n =
    let t = sym e ∙ not-false b n in
    let p = fails _ _ t in
    (ltb-false (length frame) 7 p.0, p.1)

-- ---- the takings

pub no-takings : (state : List ℕ) → state_ok state ≡ false → TakingsRan state (told_as 1 0)
unfolding takings_run
no-takings state h = record { exact = sym (if-false _ _ _ h); call = takings-promised (state_of state) _ refl }

pub takings-ran : (state : List ℕ) (s : Replica) (r : Result ℕ Refusal) → state_ok state ≡ true → s ≡ state_of state → TakingsPromise s r → TakingsRan state (sum_told r)
unfolding takings_run
takings-ran state s r ok e p =
    record {
      exact = ap sum_told (p.exact ∙ ap takings_call e) ∙ sym (if-true _ _ _ ok);
      call = takings-promised (state_of state) _ refl;
    }
