-- What new and recover mean, and that they leave memory as calls produce it.
--     create-means, create-keeps, recover-means, recover-keeps
-- Assumes nothing.
use mathlib.Core.Path.{◌≡◌, refl, sym, ap, ◌∙◌, subst}
use mathlib.Core.Bool.{Bool, true, false, not}
use mathlib.Core.List.{List, []}
use Prim.Native.Nat.{ℕ}
use native.Mathlib.Omega.{arith}
use lib.Dec.{ltb}
use lib.ListN.{length}
use borrow.Author.Tests.{not-false}
use Rattle.numbers.specs.Words.{when◌then◌else◌}
use Rattle.numbers.specs.Numbers.{over}
use Rattle.numbers.specs.Cells.{packed}
use Rattle.numbers.specs.declared.View.{View}
use Rattle.numbers.proofs.WordLaws.{split, split₂, if-true, if-false, by-not}
use Rattle.config.specs.Setup.{setup_ok}
use Rattle.config.specs.declared.Setup.{Setup}
use Rattle.frames.specs.declared.Status.TheVariants.{Normal, Recovering}
use Rattle.frames.specs.declared.Message.TheVariants.{Recovery}
use Rattle.writers.specs.Writers.{size_of, length_of}
use Rattle.state.specs.State.{new_in}
use Rattle.state.specs.Answers.{refusal, completed, quiet, code_of}
use Rattle.state.specs.declared.Replica.{Replica}
use Rattle.state.proofs.SoundLaws.{both}
use Rattle.steps.proofs.SendLaws.{bare-long}
use Rattle.recovery.specs.Recovery.{recoveries_length, recoveries_of}
use Rattle.model.specs.State.{State, Answer}
use Rattle.model.specs.Book.{empty_book}
use Rattle.model.specs.State.Answer.{refused, done}
use Rattle.model.specs.Sending.{messages_out, replies_out, send_recovery}
use Rattle.model.specs.Steps.{new_at, create, recover}
use Rattle.steps.proofs.SendLift.{bare-bytes, sends-only}
use Rattle.safety.specs.Demand.Created.{new, back}
use Rattle.outside.specs.Sound.{lengths_ok, creatable, no_replica}
use Rattle.outside.specs.Creation.{Started, started, create_step, recover_step}
use Rattle.outside.proofs.SoundLaws.{Long, long-is}
use Rattle.replica.specs.Calls.{cleared, create_call, recover_call}
use Rattle.replica.specs.Lent.{Lent, Called, called, lengths_of}
use Rattle.replica.specs.Meaning.{Kept, Done, Means}
use Rattle.replica.proofs.CreateLaws.{emptied, cleared-refused, cleared-done, new-reads, new-kept}
use Rattle.frames.specs.declared.Refusal.TheVariants.{OutOfRange, NoRoomForMessages}
use Rattle.frames.specs.declared.Refusal.{Refusal}
use Rattle.frames.proofs.RefusalLaws.{number-some}

-- ---- creation

module _ (u : Setup) (x : Lent) where
  -- where the buffers have their lengths, the setup decides
  by-setup : lengths_ok u (lengths_of x) ≡ true → creatable u (lengths_of x) ≡ setup_ok u
  unfolding creatable when◌then◌else◌
  by-setup l = ap (λ (b : Bool). when setup_ok u then b else false) l ∙ same (setup_ok u)
    where
      same : (b : Bool) → (when b then true else false) ≡ b
      same true = refl
      same false = refl

  setup-ok : not (creatable u (lengths_of x)) ≡ false → setup_ok u ≡ true
  unfolding creatable
  setup-ok f = (both _ _ (not-false _ f)).0

  long : not (creatable u (lengths_of x)) ≡ false → Long u (lengths_of x)
  unfolding creatable
  long f = long-is u (lengths_of x) (both _ _ (not-false _ f)).1

  created-done : setup_ok u ≡ true → Long u (lengths_of x)
      → Done u x (called (quiet (new_in u Normal (record { 0 = 0 }) 0)) (emptied u x x.core.out)) (new_at u Normal 0 0) [] []
  unfolding emptied messages_out replies_out packed over new_at empty_book
  created-done ok g =
      record {
        code = refl;
        setup = refl;
        state = new-reads u x x.core.out ok g Normal (record { 0 = 0 }) 0;
        messages = refl;
        out = refl;
        replies = refl;
        reps = refl;
      }

  create-is : setup_ok u ≡ true → create u ≡ done (new_at u Normal 0 0) [] []
  unfolding create
  create-is ok = if-true _ _ _ ok

  -- what is left, by the runs that a creation writes
  abbrev MeansBy : Started → Answer → Type 0
  MeansBy d a = Means u no_replica x (cleared u x d) a

  abbrev KeptBy : Started → Type 0
  KeptBy d = (code_of (cleared u x d).answer) ≡ 0 → Kept (cleared u x d).answer.state (cleared u x d).lent []

  abbrev KeptIn : Called → Type 0
  KeptIn d = code_of d.answer ≡ 0 → Kept d.answer.state d.lent []

  refused-kept : (k : Refusal) → KeptBy (started (refusal k no_replica) x.core.runs.money.totals x.core.acks x.core.out)
  refused-kept k = subst KeptIn (sym (cleared-refused u x k no_replica)) (λ e. absurd (number-some k e))

  pub create-means : lengths_ok u (lengths_of x) ≡ true → Means u no_replica x (create_call u x) (create u)
  unfolding create_call create_step create
  create-means l =
      subst (Means u no_replica x (create_call u x)) (sym (by-not (setup_ok u) (done (new_at u Normal 0 0) [] []) (refused OutOfRange)))
      (split₂ MeansBy _ _ _ _ _ _ (ap not (by-setup l)) (λ _. cleared-refused u x OutOfRange no_replica)
      (λ f.
      subst (λ (d : Called). Done u x d (new_at u Normal 0 0) [] []) (sym (cleared-done u x _ _ refl)) (created-done (setup-ok f) (long f))))

  pub create-keeps : (code_of (create_call u x).answer) ≡ 0 → Kept (create_call u x).answer.state (create_call u x).lent []
  unfolding create_call create_step
  create-keeps =
      split KeptBy _ _ _ (λ _. refused-kept OutOfRange)
      (λ f.
      subst KeptIn (sym (cleared-done u x _ _ refl))
      (λ _. new-kept u x x.core.out (setup-ok f) (long f) Normal (record { 0 = 0 }) 0 (new [] [] (create-is (setup-ok f)))))

-- ---- recovery

module _ (u : Setup) (v : View) (nonce : ℕ) (x : Lent) where
  abbrev t : Replica
  t = new_in u Recovering v nonce

  abbrev m₀ : State
  m₀ = new_at u Recovering v.0 nonce

  abbrev sent : Answer
  sent = done m₀ (send_recovery u m₀) []

  bytes-are : messages_out (send_recovery u m₀) ≡ recoveries_of t
  unfolding send_recovery new_at
  bytes-are = bare-bytes u (Recovery u.id nonce v)

  sent-long : setup_ok u ≡ true → length (messages_out (send_recovery u m₀)) ≡ recoveries_length t
  unfolding size_of length_of
  sent-long ok = ap length bytes-are ∙ bare-long u ok (Recovery u.id nonce v) refl

  -- the model's answer, by the same tests
  answer-is : recover u v.0 nonce (length x.core.out)
      ≡ (when not (setup_ok u) then refused OutOfRange else
      when ltb (length x.core.out) (length (messages_out (send_recovery u m₀))) then refused NoRoomForMessages else
      sent)
  unfolding recover
  answer-is =
      ap (λ (a : Answer). when setup_ok u then a else refused OutOfRange) (sends-only (length x.core.out) 0 m₀ (send_recovery u m₀))
      ∙ by-not (setup_ok u) _ (refused OutOfRange)

  recovering-done : setup_ok u ≡ true → Long u (lengths_of x)
      → Done u x (called (completed t (recoveries_length t) 0 false) (emptied u x (over (recoveries_of t) x.core.out))) m₀ (send_recovery u m₀) []
  unfolding emptied replies_out packed over new_at empty_book
  recovering-done ok g =
      record {
        code = refl;
        setup = refl;
        state = new-reads u x (over (recoveries_of t) x.core.out) ok g Recovering v nonce;
        messages = sym (sent-long ok);
        out = ap (λ (w : List ℕ). over w x.core.out) (sym bytes-are);
        replies = refl;
        reps = refl;
      }

  pub recover-means : lengths_ok u (lengths_of x) ≡ true
      → Means u no_replica x (recover_call u v nonce x) (recover u v.0 nonce (length x.core.out))
  unfolding recover_call recover_step
  recover-means l =
      subst (Means u no_replica x (recover_call u v nonce x)) (sym answer-is)
      (split₂ (MeansBy u x) _ _ _ _ _ _ (ap not (by-setup u x l)) (λ _. cleared-refused u x OutOfRange no_replica) λ f.
      split₂ (MeansBy u x) _ _ _ _ _ _ (ap (ltb (length x.core.out)) (sym (sent-long (setup-ok u x f))))
      (λ _. cleared-refused u x NoRoomForMessages no_replica)
      (λ _.
      subst (λ (d : Called). Done u x d m₀ (send_recovery u m₀) []) (sym (cleared-done u x _ _ refl))
      (recovering-done (setup-ok u x f) (long u x f))))

  pub recover-keeps : (code_of (recover_call u v nonce x).answer) ≡ 0 → Kept (recover_call u v nonce x).answer.state (recover_call u v nonce x).lent []
  unfolding recover_call recover_step
  recover-keeps =
      split (KeptBy u x) _ _ _ (λ _. refused-kept u x OutOfRange) λ f.
      split (KeptBy u x) _ _ _ (λ _. refused-kept u x NoRoomForMessages)
      (λ g.
      subst (KeptIn u x) (sym (cleared-done u x _ _ refl))
      (λ _.
      new-kept u x _ (setup-ok u x f) (long u x f) Recovering v nonce
      (back v.0 nonce (length x.core.out) (send_recovery u m₀) [] (is (setup-ok u x f) g))))
    where
      is : setup_ok u ≡ true → ltb (length x.core.out) (recoveries_length t) ≡ false
          → recover u v.0 nonce (length x.core.out) ≡ sent
      is ok g =
          answer-is
          ∙ if-false _ _ _ (ap not ok)
          ∙ if-false _ _ _ (ap (ltb (length x.core.out)) (sent-long ok) ∙ g)
