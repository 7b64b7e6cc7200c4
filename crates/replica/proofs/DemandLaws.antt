-- Demands 1 and 3 of the outside calls.
--     one-message, one-tick, one-creation, one-recovery    any two permitted answers are equal
--     message-untouched, tick-untouched                    demand 1
--     went                                                 what a chain leads to is what the model's calls lead to
--     chain-goes, demand-3, demand-3-recovered             demand 3, from any state that calls produced, and from a creation
-- Assumes nothing.
use Rattle.std.specs.Prelude.{Result, Ok, Err}
use mathlib.Core.Path.{◌≡◌, refl, sym, ap, ◌∙◌, subst}
use mathlib.Core.Bool.{not}
use mathlib.Core.List.{List, []}
use Prim.Native.Nat.{ℕ}
use lib.Dec.{eqb}
use borrow.Author.Tests.{eqb-true, not-false}
use Rattle.numbers.specs.declared.View.{View}
use Rattle.numbers.proofs.WordLaws.{split}
use Rattle.entries.specs.declared.Entry.{Entry}
use Rattle.config.specs.declared.Setup.{Setup}
use Rattle.frames.specs.declared.Refusal.{Refusal}
use Rattle.state.specs.Answers.{refusal, code_of, outcome_code}
use Rattle.state.specs.declared.Replica.{Replica}
use Rattle.steps.specs.Recorded.{Recorded}
use Rattle.steps.proofs.RefusedSteps as S
use Rattle.handlers.proofs.RefusedStays as R
use Rattle.model.specs.State.{State, Answer, after}
use Rattle.model.specs.State.Answer.{refused, done}
use Rattle.layout.specs.Layout.{book_of, model_of}
use Rattle.safety.specs.Demand.{Call, answer, run, Safe, Later}
use Rattle.safety.proofs.Runs.{demand3}
use Rattle.outside.specs.Calls.{checked_of, change_by}
use Rattle.std.specs.Prelude.{Result, Ok, Err}
use Rattle.replica.specs.Calls.{latest_for, table_after, Tabled, tabled, followed_by, with_table, following, checked_call, message_call, idle_call}
use Rattle.replica.specs.Lent.{Lent, Called, called, lengths_of}
use Rattle.replica.specs.Meaning.{Reached, Kept, Means, meaning_of, applied_after, frame_answer, tick_answer}
use Rattle.replica.specs.Promise.{MessagePromise, IdlePromise, CreatePromise, RecoverPromise, TakingsPromise}
use Rattle.replica.specs.Demands.{Untouched, HandedBack, Link, Chain, GoesOn}
use Rattle.replica.specs.Demands.Link.{message, tick as idled}
use Rattle.replica.specs.Demands.Chain.{none, more}
use Rattle.replica.specs.Backed.{call_by, calls_in}
use Rattle.replica.proofs.KeptLaws.{reached-safe}
use Rattle.replica.proofs.TakingsLaws.{full-addition}
use Rattle.replica.proofs.AgainLaws.{answers-in}
use Rattle.frames.specs.declared.Refusal.TheVariants.{OutOfRange}
use Rattle.frames.proofs.RefusalLaws.{number-some}
use Rattle.frames.specs.declared.Message.{Message}

-- ---- one answer

pub one-message : (s : Replica) (f : List ℕ) (x : Lent) (d e : Called) → MessagePromise s f x d → MessagePromise s f x e → d ≡ e
one-message s f x d e p q = p.exact ∙ sym q.exact

pub one-tick : (s : Replica) (x : Lent) (d e : Called) → IdlePromise s x d → IdlePromise s x e → d ≡ e
one-tick s x d e p q = p.exact ∙ sym q.exact

pub one-creation : (u : Setup) (x : Lent) (d e : Called) → CreatePromise u x d → CreatePromise u x e → d ≡ e
one-creation u x d e p q = p.exact ∙ sym q.exact

pub one-recovery : (u : Setup) (v : View) (k : ℕ) (x : Lent) (d e : Called) → RecoverPromise u v k x d → RecoverPromise u v k x e → d ≡ e
one-recovery u v k x d e p q = p.exact ∙ sym q.exact

pub one-takings : (s : Replica) (r t : Result ℕ Refusal) → TakingsPromise s r → TakingsPromise s t → r ≡ t
one-takings s r t p q = p.exact ∙ sym q.exact

-- ---- demand 1

module _ (s : Replica) (x : Lent) where
  refuses : (k : Refusal) → Untouched s x (called (refusal k s) x)
  refuses k j h = let same : k ≡ j = cc h in rw same

  follows : (d : Recorded) → S.Untouched s x.core d → Untouched s x (following s x.table d)
  unfolding following followed_by
  follows d h =
      split (λ (t : Tabled). Untouched s x (with_table d.memory t)) (not (eqb (code_of d.answer) 0))
      (tabled d.answer x.table)
      (tabled d.answer (table_after s.setup.room (change_by s d.answer) x.table d.memory.runs.log d.memory.runs.money.results))
      (λ _ k e. ap (λ (z : Recorded). called z.answer (record { core = z.memory; table = x.table })) (h k e))
      (λ f k e.
      let zero : code_of d.answer ≡ 0 = eqb-true (code_of d.answer) 0 (not-false (eqb (code_of d.answer) 0) f) in
      absurd (number-some k (sym (ap outcome_code e) ∙ zero)))

  checks : (f : List ℕ) (j : Result Message Refusal) → Untouched s x (checked_call j s f x)
  unfolding checked_call
  checks f (Err k) = refuses k
  checks f (Ok m) = follows _ (R.message-untouched m s (latest_for m s.setup.room x.table) f x.core)

  pub message-untouched : (f : List ℕ) (d : Called) → MessagePromise s f x d → Untouched s x d
  unfolding message_call
  message-untouched f d p = subst (Untouched s x) (sym p.exact) (checks f (checked_of s (lengths_of x) f))

  pub tick-untouched : (d : Called) → IdlePromise s x d → Untouched s x d
  unfolding idle_call
  tick-untouched d p =
      subst (Untouched s x) (sym p.exact) (split (Untouched s x) _ _ _ (λ _. refuses OutOfRange) (λ _. follows _ (R.idle-untouched s x.core)))

-- ---- memory handed back

module _ (s : Replica) (applied : List Entry) (x y : Lent) (h : HandedBack x y) where
  -- what is read doesn't lie in the areas
  abbrev other : Lent
  other =
      record {
        core = record { runs = x.core.runs; acks = x.core.acks; stored = x.core.stored; out = y.core.out; reps = y.core.reps };
        table = x.table;
      }

  is-other : y ≡ other
  is-other =
      λ i. record {
        core = record { runs = h.runs i; acks = h.acks i; stored = h.stored i; out = y.core.out; reps = y.core.reps };
        table = h.table i;
      }

  pub handed-means : meaning_of s y applied ≡ meaning_of s x applied
  handed-means = ap (λ (z : Lent). meaning_of s z applied) is-other

  pub handed-kept : Kept s x applied → Kept s y applied
  handed-kept k =
      subst (λ (z : Lent). Kept s z applied) (sym is-other)
      (record {
        sound = k.sound;
        log-ok = k.log-ok;
        rows-count = k.rows-count;
        stored_ok = k.stored_ok;
        ordered = k.ordered;
        reached = k.reached;
      })

-- ---- one call

-- state and memory after it mean the model's next state
pub next-means : (s : Replica) (x : Lent) (applied : List Entry) (d : Called) (a : Answer) → Means s.setup s x d a
    → (meaning_of d.answer.state d.lent (applied_after (meaning_of s x applied) a) ≡ after (meaning_of s x applied) a)
    × (d.answer.state.setup ≡ s.setup)
unfolding after model_of book_of
next-means s x applied d (refused k) e =
    (ap (λ (z : Called). meaning_of z.answer.state z.lent applied) e, ap (λ (z : Called). z.answer.state.setup) e)
next-means s x applied d (done m ms rs) e = (e.state, e.setup)

-- what a call leads to, in the model
record Stepped (s : Replica) (x : Lent) (applied : List Entry) (d : Called) (call : Call) : Type 0 where
  applied₁ : List Entry
  kept : Kept d.answer.state d.lent applied₁
  setup : d.answer.state.setup ≡ s.setup
  is : meaning_of d.answer.state d.lent applied₁ ≡ after (meaning_of s x applied) (answer s.setup (meaning_of s x applied) call)

stepped : (s : Replica) (x : Lent) (applied : List Entry) (d : Called) → Kept s x applied → (l : Link s x d) → Stepped s x applied d (call_by s x d l)
unfolding answer
stepped s x applied d k (message f b o p) =
    let n = next-means s x applied d (frame_answer s f x applied) (p.meaning applied b o k) in
    record { applied₁ = _; kept = p.keeps applied b o k; setup = n.1; is = n.0 }
stepped s x applied d k (idled o p) =
    let n = next-means s x applied d (tick_answer s x applied) (p.meaning applied o k) in
    record { applied₁ = _; kept = p.keeps applied o k; setup = n.1; is = n.0 }

-- ---- any calls

pub record Went (s : Replica) (x : Lent) (applied : List Entry) (s' : Replica) (x' : Lent) (calls : List Call) : Type 0 where
  pub applied' : List Entry
  pub kept : Kept s' x' applied'
  pub setup : s'.setup ≡ s.setup
  pub is : meaning_of s' x' applied' ≡ run s.setup (meaning_of s x applied) calls

pub went : (s' : Replica) (x' : Lent) (s : Replica) (x : Lent) (applied : List Entry) → Kept s x applied → (c : Chain s' x' s x)
    → Went s x applied s' x' (calls_in s' x' s x c)
unfolding run
went s' x' s x applied k none = record { applied' = applied; kept = k; setup = refl; is = refl }
went s' x' s x applied k (more _ _ d y l h c) =
    let t = stepped s x applied d k l in
    let u = d.answer.state in
    let w = went s' x' u y t.applied₁ (handed-kept u t.applied₁ d.lent y h t.kept) c in
    record {
      applied' = w.applied';
      kept = w.kept;
      setup = w.setup ∙ t.setup;
      is =
          w.is
          ∙ (λ i. run (t.setup i) (meaning_of u y t.applied₁) (calls_in s' x' u y c))
          ∙ ap (λ (m : State). run s.setup m (calls_in s' x' u y c)) (handed-means u t.applied₁ d.lent y h ∙ t.is);
    }

later-reached : (u : Setup) (m : State) (cs : List Call) → Reached u m → Later m (run u m cs)
later-reached u m cs r =
    subst (λ (n : State). Later n (run u n cs)) (sym r.is) (demand3 u r.first r.created r.calls cs).later

pub chain-goes : (s : Replica) (x : Lent) (applied : List Entry) (s' : Replica) (x' : Lent) → Kept s x applied → Chain s' x' s x
    → GoesOn s x applied s' x'
chain-goes s x applied s' x' k c =
    let w = went s' x' s x applied k c in
    record {
      applied' = w.applied';
      kept = w.kept;
      setup = w.setup;
      safe = subst (λ (u : Setup). Safe u (meaning_of s' x' w.applied')) w.setup (reached-safe _ _ w.kept.reached);
      later = subst (Later (meaning_of s x applied)) (sym w.is) (later-reached s.setup (meaning_of s x applied) (calls_in s' x' s x c) k.reached);
      takings = λ r p. full-addition s' x' w.applied' w.kept r p;
      again = answers-in s' x' w.applied' w.kept;
    }

-- from a creation, or a recovery, that wasn't refused
pub demand-3 : (u : Setup) (x : Lent) (d : Called) (y : Lent) (s : Replica) (z : Lent) → CreatePromise u x d → code_of d.answer ≡ 0
    → HandedBack d.lent y → Chain s z d.answer.state y → GoesOn d.answer.state y [] s z
demand-3 u x d y s z p e h c = chain-goes _ _ _ _ _ (handed-kept _ _ _ _ h (p.keeps e)) c

pub demand-3-recovered : (u : Setup) (v : View) (k : ℕ) (x : Lent) (d : Called) (y : Lent) (s : Replica) (z : Lent) → RecoverPromise u v k x d
    → code_of d.answer ≡ 0 → HandedBack d.lent y → Chain s z d.answer.state y → GoesOn d.answer.state y [] s z
demand-3-recovered u v k x d y s z p e h c = chain-goes _ _ _ _ _ (handed-kept _ _ _ _ h (p.keeps e)) c
