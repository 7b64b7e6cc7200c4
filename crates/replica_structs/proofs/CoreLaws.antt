-- The core's functions, on plain variables, as the code's calls give them.
--     checked-by, sound-counted, create-counted, recover-counted
--                                                          refusal 1 says the same of rows counted as the code counts them
--     gathered, passes                                     what it asks, as the handlers have it
--     Ready, message-ready, idle-ready                     what the table's functions need of what they have to follow
--     malformed, taken                                     a frame
--     idle-unsound, idle-done                              a tick
-- Assumes nothing.
use Rattle.std.specs.Prelude.{Result, Ok, Err}
use Rattle.std.specs.Prelude.{◌≡◌, ℕ, ◌*◌, ◌<◌, ◌≤◌, Bool, true, false, not, eqb, List, length}
use mathlib.Core.Path.{refl, sym, ap, ◌∙◌, subst}
use native.Mathlib.Omega.{arith}
use borrow.Author.Tests.{ltb-true, ne_eqb, not-false}
use Rattle.numbers.specs.Words.{when◌then◌else◌}
use Rattle.numbers.proofs.WordLaws.{split, split₂}
use Rattle.numbers.specs.declared.View.{View}
use Rattle.config.specs.Setup.{setup_ok}
use Rattle.config.specs.declared.Setup.{Setup}
use Rattle.config.proofs.SetupLaws.{sized}
use Rattle.frames.specs.Refusals.{check_frame}
use Rattle.frames.specs.declared.Message.{Message}
use Rattle.frames.specs.declared.Refusal.{Refusal}
use Rattle.client_table.specs.declared.Latest.{Latest}
use Rattle.client_table.specs.declared.Change.{Change}
use Rattle.state.specs.Answers.{refusal}
use Rattle.state.specs.Lengths.{table_length}
use Rattle.state.specs.declared.Returned.{Returned}
use Rattle.state.specs.declared.Replica.{Replica}
use Rattle.book.specs.Memory.{Memory}
use Rattle.steps.specs.Recorded.{Recorded, recorded, Gathering}
use Rattle.handlers.specs.Handlers.{message_step, idle_step}
use Rattle.handlers.proofs.Stays.{message-stays, idle-stays}
use Rattle.outside.specs.Sound.{lengths_with, lengths_ok, creatable, sound}
use Rattle.outside.specs.Calls.{checked_of, told_of}
use Rattle.outside.specs.Creation.{Started, create_step, recover_step}
use Rattle.outside.specs.declared.Lengths.{Lengths}
use Rattle.outside.proofs.SoundLaws.{sound-is}
use Rattle.outside.proofs.CallLaws.{passed_is}
use Rattle.replica_structs.specs.Core.{lengths_by, lengths_in, Passes, checked_core, idle_core, started_in, create_core, recover_core, no_change, change_after, row_bytes}
use Rattle.frames.specs.declared.Refusal.TheVariants.{OutOfRange}

-- ---- refusal 1

bytes_same : (u : Setup) (n : ℕ) → setup_ok u ≡ true → eqb (row_bytes n) (table_length u) ≡ eqb (25 * n) (table_length u)
unfolding row_bytes
bytes_same u n ok =
    let z = sized u ok in
    split (λ (k : ℕ). eqb k (table_length u) ≡ eqb (25 * n) (table_length u)) _ _ _
    (λ p.
    let l : 4096 < n = ltb-true _ _ p in
    ne_eqb 0 (table_length u) (λ e. omega (arith, e, z.room-low))
    ∙ sym (ne_eqb (25 * n) (table_length u) (λ e. omega (arith, e, l, z.room-high))))
    (λ _. refl)

-- the table as the code counts it
module _ (log results totals acks stored table : ℕ) {t : ℕ} (p : t ≡ row_bytes table) where
  abbrev counted : Lengths
  counted = record { log = log; results = results; totals = totals; acks = acks; stored = stored; table = t }

  abbrev meant : Lengths
  meant = lengths_by log results totals acks stored table

  creatable-by : (u : Setup) → creatable u counted ≡ creatable u meant
  unfolding creatable lengths_ok
  creatable-by u =
      split₂ (λ (a b : Bool). a ≡ b) (setup_ok u) (setup_ok u) _ _ _ _ refl
      (λ ok. rw (p, bytes_same u table ok)) (λ _. refl)

  sound-by : (s : Replica) → sound s counted ≡ sound s meant
  unfolding sound
  sound-by s = rw (creatable-by s.setup)

  pub checked-by : (s : Replica) (frame : List ℕ)
      → checked_of s (record { log = log; results = results; totals = totals; acks = acks; stored = stored; table = t }) frame
      ≡ checked_of s (lengths_by log results totals acks stored table) frame
  unfolding checked_of
  checked-by s frame = ap (λ (b : Bool). when not b then Err OutOfRange else check_frame s.setup frame) (sound-by s)

module _ (m : Memory) (table : ℕ) {t : ℕ} (p : t ≡ row_bytes table) where
  pub sound-counted : (s : Replica) → sound s (lengths_with m t) ≡ sound s (lengths_in m table)
  sound-counted s = sound-by _ _ _ _ _ table p s

  creatable-counted : (u : Setup) → creatable u (lengths_with m t) ≡ creatable u (lengths_in m table)
  creatable-counted u = creatable-by _ _ _ _ _ table p u

  module _ (u : Setup) where
    created : (totals acks out : List ℕ) → create_step u (lengths_with m t) totals acks out ≡ create_step u (lengths_in m table) totals acks out
    unfolding create_step
    created totals acks out = rw (creatable-counted u)

    recovered : (v : View) (nonce : ℕ) (totals acks out : List ℕ)
        → recover_step u v nonce (lengths_with m t) totals acks out ≡ recover_step u v nonce (lengths_in m table) totals acks out
    unfolding recover_step
    recovered v nonce totals acks out = rw (creatable-counted u)

    pub create-counted : {d : Started} → d ≡ create_step u (lengths_with m t) m.runs.money.totals m.acks m.out
        → started_in m d ≡ create_core u table m
    unfolding create_core
    create-counted e = ap (started_in m) (e ∙ created m.runs.money.totals m.acks m.out)

    pub recover-counted : (v : View) (nonce : ℕ) {d : Started}
        → d ≡ recover_step u v nonce (lengths_with m t) m.runs.money.totals m.acks m.out
        → started_in m d ≡ recover_core u v nonce table m
    unfolding recover_core
    recover-counted v nonce e = ap (started_in m) (e ∙ recovered v nonce m.runs.money.totals m.acks m.out)

-- what passing it says
pub gathered : (s : Replica) (m : Memory) (table : ℕ) → sound s (lengths_in m table) ≡ true → Gathering s m
gathered s m table e = (sound-is s m (25 * table) e).gathering

pub passes : (c : Result Message Refusal) (s : Replica) (table : ℕ) (frame : List ℕ) (m : Memory) → c ≡ checked_of s (lengths_in m table) frame
    → Passes c s frame m
passes c s table frame m e y p =
    let k = passed_is s (lengths_in m table) frame y (sym e ∙ p) in
    (gathered s m table k.0, k.1)

-- ---- what the table has to follow

-- what its functions need of it
pub record Ready (log results : ℕ) (k : Change) : Type 0 where
  pub log-long : 32 * k.to.0 ≤ log
  pub results-long : 9 * k.done.0 ≤ results
  pub done-le : k.done.0 ≤ k.to.0

nothing-ready : (log results : ℕ) → Ready log results no_change
nothing-ready log results =
    record { log-long = omega arith; results-long = omega arith; done-le = omega arith }

module _ (s : Replica) where
  abbrev pub ReadyBy : Recorded → Type 0
  ReadyBy d = Ready (length d.memory.runs.log) (length d.memory.runs.money.results) (change_after s d.answer)

  refused-ready : (m : Memory) → ReadyBy (recorded (refusal OutOfRange s) m)
  unfolding change_after when◌then◌else◌
  refused-ready m = nothing-ready (length m.runs.log) (length m.runs.money.results)

  stays-ready : (d : Recorded) → Gathering d.answer.state d.memory → ReadyBy d
  unfolding change_after
  stays-ready d g =
      let z = g.sound in
      split (Ready (length d.memory.runs.log) (length d.memory.runs.money.results)) _ _ _
      (λ _. nothing-ready (length d.memory.runs.log) (length d.memory.runs.money.results))
      (λ _.
      record {
        log-long = omega (arith, z.op_le, z.log-long);
        results-long = omega (arith, z.op_le, z.commit-le, z.results-long);
        done-le = z.commit-le;
      })

  module _ (l : Latest) (frame : List ℕ) (m : Memory) where
    checked-ready : (c : Result Message Refusal) → check_frame s.setup frame ≡ c → Gathering s m → ReadyBy (checked_core c s l frame m)
    unfolding checked_core
    checked-ready (Err k) e g = stays-ready (recorded (refusal k s) m) g
    checked-ready (Ok y) e g = stays-ready _ (message-stays y s (told_of y l) frame m g e).gathering

    pub message-ready : (table : ℕ) (c : Result Message Refusal) → c ≡ checked_of s (lengths_in m table) frame → ReadyBy (checked_core c s l frame m)
    unfolding checked_of checked_core
    message-ready table c e =
        subst (λ (j : Result Message Refusal). ReadyBy (checked_core j s l frame m)) (sym e)
        (split (λ (j : Result Message Refusal). ReadyBy (checked_core j s l frame m)) _ _ _ (λ _. refused-ready m)
        (λ f. checked-ready (check_frame s.setup frame) refl (gathered s m table (not-false _ f))))

  pub idle-ready : (table : ℕ) (m : Memory) → ReadyBy (idle_core s table m)
  unfolding idle_core
  idle-ready table m =
      split ReadyBy _ _ _ (λ _. refused-ready m)
      (λ f. stays-ready _ (idle-stays s m (gathered s m table (not-false _ f))).gathering)

-- ---- a frame

module _ (c : Result Message Refusal) (s : Replica) (l : Latest) (frame : List ℕ) (m : Memory) where
  pub malformed : (k : Refusal) → c ≡ Err k → {a : Returned} → a ≡ refusal k s → recorded a m ≡ checked_core c s l frame m
  unfolding checked_core
  malformed k r p = rw (r, p)

  pub taken : (y : Message) → c ≡ Ok y → (t : Latest) → t ≡ told_of y l → {d : Recorded} → d ≡ message_step y s t frame m
      → d ≡ checked_core c s l frame m
  unfolding checked_core
  taken y r t n p = rw (r, ← n) p

-- ---- a tick

module _ (s : Replica) (table : ℕ) (m : Memory) (b : Bool) (e : b ≡ sound s (lengths_in m table)) where
  pub idle-unsound : b ≡ false → {a : Returned} → a ≡ refusal OutOfRange s → recorded a m ≡ idle_core s table m
  unfolding idle_core when◌then◌else◌
  idle-unsound h p = rw (← e, h, p)

  pub idle-done : b ≡ true → {d : Recorded} → d ≡ idle_step s m → d ≡ idle_core s table m
  unfolding idle_core when◌then◌else◌
  idle-done h p = rw (← e, h) p
