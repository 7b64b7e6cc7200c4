-- What stands behind a DoViewChange, in the bytes of the outside calls.
--     own_out                     our own id isn't in the set of state and memory that calls produced
--     create-new, recover-new     the state that a creation, or a recovery, leaves
--     chain-backed                over any chain, from a state with no votes
--     backed, backed-recovered    from a creation, and from a recovery, that wasn't refused
-- Assumes nothing.
use mathlib.Core.Path.{◌≡◌, refl, sym, ap, ◌∙◌, subst}
use mathlib.Core.Bool.{false}
use mathlib.Core.List.{List, [], ◌∷◌, ◌++◌}
use Prim.Native.Nat.{ℕ}
use native.Mathlib.Omega.{arith}
use lib.ListN.{length}
use Rattle.numbers.specs.Numbers.{over}
use Rattle.numbers.specs.Cells.{packed}
use Rattle.numbers.specs.declared.View.{View}
use Rattle.numbers.proofs.WordLaws.{split}
use Rattle.entries.specs.declared.Entry.{Entry}
use Rattle.config.specs.Replicas.{bit}
use Rattle.config.specs.declared.Setup.{Setup}
use Rattle.frames.specs.declared.Status.TheVariants.{Normal, Recovering}
use Rattle.state.specs.State.{new_in}
use Rattle.state.specs.Answers.{refusal, code_of, messages_written}
use Rattle.state.specs.declared.Replica.{Replica}
use Rattle.model.specs.State.{State, Answer}
use Rattle.model.specs.State.Answer.{refused, done}
use Rattle.model.specs.Sending.{messages_out}
use Rattle.model.specs.Asked.{AllBacked}
use Rattle.model.proofs.AskedLaws.{no-votes}
use Rattle.layout.specs.Layout.{model_of}
use Rattle.safety.specs.Demand.{answer}
use Rattle.safety.specs.Demand.Call.{tick}
use Rattle.safety.specs.Earned.{AskedIn, sent_by}
use Rattle.safety.proofs.Earned.{earned-from, earned}
use Rattle.outside.specs.Sound.{no_replica}
use Rattle.outside.specs.Creation.{Started, started, create_step, recover_step}
use Rattle.replica.specs.Calls.{cleared, create_call, recover_call}
use Rattle.replica.specs.Lent.{Lent, Called}
use Rattle.replica.specs.Meaning.{Kept, Means, meaning_of}
use Rattle.replica.specs.Promise.{CreatePromise, RecoverPromise}
use Rattle.replica.specs.Demands.{HandedBack, Link, Chain}
use Rattle.replica.specs.Demands.Link.{message, tick as idled}
use Rattle.replica.specs.Backed.{call_by, calls_in, WroteBacked, OwnOut}
use Rattle.replica.proofs.CreateLaws.{cleared-refused, cleared-done}
use Rattle.replica.proofs.DemandLaws.{handed-kept, went}
use Rattle.frames.specs.declared.Refusal.{Refusal}
use Rattle.frames.proofs.RefusalLaws.{number-some}
use Rattle.frames.specs.declared.Refusal.TheVariants.{OutOfRange, NoRoomForMessages}

pub own_out : (s : Replica) (x : Lent) (applied : List Entry) → Kept s x applied → OwnOut s
unfolding model_of
own_out s x applied k =
    let r = k.reached in
    let e = earned s.setup r.first r.created r.calls (tick 0 0) in
    subst (λ (m : State). bit m.votes.starts s.setup.id ≡ 0) (sym r.is) e.voted.others.own_out

-- ---- what a call wrote

-- the messages of the model's answer a, in the area
record InArea (x : Lent) (d : Called) (a : Answer) : Type 0 where
  messages : messages_written d.answer ≡ length (messages_out (sent_by a))
  out : d.lent.core.out ≡ over (messages_out (sent_by a)) x.core.out

wrote : (s : Replica) (x : Lent) (d : Called) (a : Answer) → Means s.setup s x d a → InArea x d a
unfolding sent_by messages_out packed over
wrote s x d (refused k) e =
    record { messages = ap (λ (z : Called). (messages_written z.answer)) e; out = ap (λ (z : Called). z.lent.core.out) e }
wrote s x d (done m ms rs) e = record { messages = e.messages; out = e.out }

link-means : (s : Replica) (x : Lent) (applied : List Entry) (d : Called) → Kept s x applied → (l : Link s x d)
    → Means s.setup s x d (answer s.setup (meaning_of s x applied) (call_by s x d l))
unfolding answer
link-means s x applied d k (message f b o p) = p.meaning applied b o k
link-means s x applied d k (idled o p) = p.meaning applied o k

pub chain-backed : (s : Replica) (x : Lent) (applied : List Entry) → Kept s x applied → s.starts ≡ 0 → s.sent ≡ false
    → (s' : Replica) (x' : Lent) (c : Chain s' x' s x) (d : Called) (l : Link s' x' d)
    → WroteBacked s.setup (calls_in s' x' s x c) s' x' (call_by s' x' d l) d
unfolding model_of
chain-backed s x applied k none_in not-sent s' x' c d l =
    let u = s.setup in
    let call = call_by s' x' d l in
    let cs = calls_in s' x' s x c in
    let w = went s' x' s x applied k c in
    let m = meaning_of s x applied in
    let m' = meaning_of s' x' w.applied' in
    let e = earned-from u m (λ Asked. no-votes u Asked m none_in not-sent) cs call in
    let B : Answer → Type 0 = λ a. AllBacked u (AskedIn u (cs ++ call ∷ [])) (sent_by a) in
    let f : B (answer u m' call) = subst (λ (n : State). B (answer u n call)) (sym w.is) e.backed in
    let q = wrote s' x' d _ (link-means s' x' w.applied' d w.kept l) in
    record {
      applied = w.applied';
      kept = w.kept;
      messages = q.messages;
      out = q.out;
      backed = subst (λ (v : Setup). B (answer v m' call)) (sym w.setup) f;
    }

-- ---- from a creation

module _ (u : Setup) (x : Lent) where
  -- the state of one that is done
  abbrev pub IsNew : Replica → Called → Type 0
  IsNew t d = code_of d.answer ≡ 0 → d.answer.state ≡ t

  refused-new : (t : Replica) (k : Refusal)
      → IsNew t (cleared u x (started (refusal k no_replica) x.core.runs.money.totals x.core.acks x.core.out))
  refused-new t k = subst (IsNew t) (sym (cleared-refused u x k no_replica)) (λ e. absurd (number-some k e))

  pub create-new : IsNew (new_in u Normal (record { 0 = 0 }) 0) (create_call u x)
  unfolding create_call create_step
  create-new =
      split (λ (d : Started). IsNew (new_in u Normal (record { 0 = 0 }) 0) (cleared u x d)) _ _ _
      (λ _. refused-new _ OutOfRange)
      (λ _. subst (IsNew (new_in u Normal (record { 0 = 0 }) 0)) (sym (cleared-done u x _ _ refl)) (λ _. refl))

  pub recover-new : (v : View) (nonce : ℕ) → IsNew (new_in u Recovering v nonce) (recover_call u v nonce x)
  unfolding recover_call recover_step
  recover-new v nonce =
      let P : Started → Type 0 = λ d. IsNew (new_in u Recovering v nonce) (cleared u x d) in
      split P _ _ _ (λ _. refused-new _ OutOfRange) λ _.
      split P _ _ _ (λ _. refused-new _ NoRoomForMessages)
      (λ _. subst (IsNew (new_in u Recovering v nonce)) (sym (cleared-done u x _ _ refl)) (λ _. refl))

-- after a call that left a new state t, whose memory is handed back as y
module _ (d : Called) (t : Replica) (new : d.answer.state ≡ t) (none_in : t.starts ≡ 0) (not-sent : t.sent ≡ false) (kept : Kept d.answer.state d.lent [])
    (y : Lent) (h : HandedBack d.lent y) where
  from-new : (s : Replica) (z : Lent) (e : Called) (c : Chain s z d.answer.state y) (l : Link s z e)
      → WroteBacked t.setup (calls_in s z d.answer.state y c) s z (call_by s z e l) e
  from-new s z e c l =
      subst (λ (r : Replica). WroteBacked r.setup (calls_in s z d.answer.state y c) s z (call_by s z e l) e) new
      (chain-backed d.answer.state y [] (handed-kept _ _ _ _ h kept) (ap (λ (r : Replica). r.starts) new ∙ none_in)
      (ap (λ (r : Replica). r.sent) new ∙ not-sent) s z c e l)

pub backed : (u : Setup) (x : Lent) (d : Called) (y : Lent) (s : Replica) (z : Lent) (e : Called) → CreatePromise u x d → code_of d.answer ≡ 0
    → HandedBack d.lent y → (c : Chain s z d.answer.state y) (l : Link s z e)
    → WroteBacked u (calls_in s z d.answer.state y c) s z (call_by s z e l) e
backed u x d y s z e p k h =
    from-new d _ (subst (IsNew u x _) (sym p.exact) (create-new u x) k) refl refl (p.keeps k) y h s z e

pub backed-recovered : (u : Setup) (v : View) (nonce : ℕ) (x : Lent) (d : Called) (y : Lent) (s : Replica) (z : Lent) (e : Called)
    → RecoverPromise u v nonce x d → code_of d.answer ≡ 0 → HandedBack d.lent y → (c : Chain s z d.answer.state y) (l : Link s z e)
    → WroteBacked u (calls_in s z d.answer.state y c) s z (call_by s z e l) e
backed-recovered u v nonce x d y s z e p k h =
    from-new d _ (subst (IsNew u x _) (sym p.exact) (recover-new u x v nonce) k) refl refl (p.keeps k) y h s z e
