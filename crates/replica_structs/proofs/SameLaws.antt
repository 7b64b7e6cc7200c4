-- The outside calls over row structs are those over the byte table, each row being written as its 25 bytes, and leave rows as they are to be.
--     message-same, idle-same                             a frame, and a tick
--     create-same, create-ok, recover-same, recover-ok    creation
-- Assumes nothing.
use Rattle.std.specs.Prelude.{Option, Some, None, Result, Ok, Err, ◌≡◌, ℕ, true, not, List, length, replicate}
use mathlib.Core.Path.{refl, sym, ap, ◌∙◌, subst}
use borrow.Author.Tests.{eqb-true, eq-eqb}
use Rattle.numbers.specs.Numbers.{Bytes, over}
use Rattle.numbers.specs.declared.View.{View}
use Rattle.numbers.proofs.WordLaws.{split₂, if-true, if-false}
use Rattle.entries.specs.declared.Entry.{Entry}
use Rattle.config.specs.declared.Setup.{Setup}
use Rattle.frames.specs.Refusals.{check_frame}
use Rattle.frames.specs.declared.Message.{Message}
use Rattle.frames.specs.declared.Refusal.{Refusal}
use Rattle.client_table.specs.declared.Latest.{Latest}
use Rattle.client_table.specs.Found.{found_in, latest_of}
use Rattle.client_table_bytes.specs.Layout.{byte_row}
use Rattle.client_table_bytes.specs.declared.MarkedRow as B
use Rattle.client_table_structs.specs.Shape.{unused_row}
use Rattle.client_table_structs.specs.declared.Row.{Row}
use Rattle.state.specs.Lengths.{table_length}
use Rattle.state.specs.declared.Replica.{Replica}
use Rattle.steps.specs.Recorded.{Recorded}
use Rattle.handlers.specs.Handlers.{message_step, idle_step}
use Rattle.handlers.proofs.BytesStay.{InBytes, message-bytes, idle-bytes}
use Rattle.model.specs.State.{Answer}
use Rattle.model.specs.Steps.{fitted, on_checked, on_idle}
use Rattle.layout.specs.Shown.{Given}
use Rattle.handlers.proofs.HandlersLift.{message-shown, idle-shown}
use Rattle.outside.specs.Sound.{lengths_with, sound}
use Rattle.outside.specs.Calls.{carried_by, told_of}
use Rattle.outside.specs.Creation.{Started, started_memory, create_step, recover_step}
use Rattle.outside.specs.declared.Lengths.{Lengths}
use Rattle.outside.proofs.SoundLaws.{Long}
use Rattle.outside.proofs.CallLaws.{past-1, told-his, told-other}
use Rattle.outside.proofs.CreateLaws.{create-long, recover-long}
use Rattle.replica.specs.Calls.{found_by, found_for, latest_found, latest_for, following, checked_call, message_call, idle_call, cleared, create_call, recover_call}
use Rattle.replica.specs.Lent.{Lent, called, lengths_of}
use Rattle.replica.specs.Meaning.{meaning_of, Owned}
use Rattle.replica.proofs.KeptLaws.{given, rows, fit, row-tells}
use Rattle.replica_structs.specs.Core.{lengths_in, client_in, checked_core, idle_core, started_in, create_core, recover_core}
use Rattle.replica_structs.specs.Calls.{LentRows, latest_in, following_rows, checked_rows, message_rows, idle_rows, cleared_rows, create_rows, recover_rows}
use Rattle.replica_structs.specs.Promise.{table_bytes, in_bytes, called_bytes, RowsOk, KeptRows}
use Rattle.replica_structs.proofs.ByteLaws.{blank_ok, told-alike, bytes-long, blank-bytes}
use Rattle.replica_structs.proofs.StepLaws.{Keeps, table-read, refused-keeps, step_same}
use Rattle.state.specs.Answers.{code_of}

-- ---- a frame, and a tick

module _ (s : Replica) (x : LentRows) (applied : List Entry) (o : Owned (in_bytes x)) (kept : KeptRows s x applied) where
  abbrev y : Lent
  y = in_bytes x

  abbrev c : Given
  c = given s y applied o kept.kept

  abbrev sized-to : Answer → Answer
  sized-to a = fitted (length x.core.out) (length x.core.reps) a

  in_bytes_lem : InBytes x.core
  in_bytes_lem = (record { log = o.log; money = record { results = o.results; totals = o.totals } }, o.stored)

  sound-is : sound s (lengths_in x.core (length x.table)) ≡ true
  sound-is = rw (← bytes-long x.table) kept.kept.sound

  told-by : (z : Message) (client : Option ℕ) → carried_by z ≡ client → told_of z (latest_in x.table client) ≡ latest_found (found_by client s.setup.room (table_bytes x.table))
  unfolding latest_in latest_found found_by
  told-by z None e = told-other z _ e
  told-by z (Some client) e =
      told-his z _ client e
      ∙ told-alike x.table kept.rows client
      ∙ ap (λ (l : List B.MarkedRow). latest_of byte_row (found_in byte_row l client)) (sym (table-read s x applied o kept))

  told : (z : Message) → told_of z (latest_in x.table (carried_by z)) ≡ latest_for z s.setup.room (table_bytes x.table)
  unfolding latest_for found_for
  told z = told-by z (carried_by z) refl

  module _ (frame : List ℕ) (b : Bytes frame) where
    checked-keeps : (c : Result Message Refusal) → check_frame s.setup frame ≡ c → Keeps (checked_rows c s frame x) (checked_call c s frame y)
    unfolding checked_rows checked_core client_in checked_call
    checked-keeps (Err i) e = refused-keeps s x applied o kept i
    checked-keeps (Ok z) e =
        let latest = latest_for z s.setup.room (table_bytes x.table) in
        let d = message_step z s latest frame x.core in
        subst (λ (w : Recorded). Keeps (following_rows s x.table w) (following s y.table d))
        (ap (λ (l : Latest). message_step z s l frame x.core) (sym (told z)))
        (step_same s x applied o kept d (sized-to (on_checked s.setup (meaning_of s y applied) frame (Ok z)))
        (message-shown c (rows s y applied o kept.kept) applied (fit s y applied o kept.kept) z latest frame e b
        (row-tells s y applied o kept.kept z))
        (message-bytes z s latest frame x.core in_bytes_lem b).0)

    pub message-same : Keeps (message_rows s frame x) (message_call s frame (in_bytes x))
    unfolding message_rows message_call
    message-same =
        subst (λ (c : Result Message Refusal). Keeps (checked_rows c s frame x) (message_call s frame y)) (sym (past-1 s _ frame sound-is))
        (subst (λ (c : Result Message Refusal). Keeps (checked_rows (check_frame s.setup frame) s frame x) (checked_call c s frame y))
        (sym (past-1 s (lengths_of y) frame kept.kept.sound)) (checked-keeps (check_frame s.setup frame) refl))

  ticked : idle_core s (length x.table) x.core ≡ idle_step s x.core
  unfolding idle_core
  ticked = if-false _ _ _ (ap not sound-is)

  tick_is : idle_call s y ≡ following s y.table (idle_step s x.core)
  unfolding idle_call
  tick_is = if-false _ _ _ (ap not kept.kept.sound)

  pub idle-same : Keeps (idle_rows s x) (idle_call s (in_bytes x))
  unfolding idle_rows
  idle-same =
      subst (λ (w : Recorded). Keeps (following_rows s x.table w) (idle_call s y)) (sym ticked)
      (subst (Keeps (following_rows s x.table (idle_step s x.core))) (sym tick_is)
      (step_same s x applied o kept (idle_step s x.core) (sized-to (on_idle s.setup (meaning_of s y applied)))
      (idle-shown c (rows s y applied o kept.kept) applied (fit s y applied o kept.kept))
      (idle-bytes s x.core in_bytes_lem).0))

-- ---- creation

module _ (u : Setup) (x : LentRows) where
  abbrev lengths : Lengths
  lengths = lengths_in x.core (length x.table)

  lengths-same : lengths ≡ lengths_of (in_bytes x)
  lengths-same = λ i. lengths_with x.core (sym (bytes-long x.table) i)

  blank-same : Long u lengths → table_bytes (replicate (length x.table) unused_row) ≡ over (replicate (table_length u) 0) (table_bytes x.table)
  blank-same h = sym (blank-bytes x.table) ∙ ap (λ (n : ℕ). over (replicate n 0) (table_bytes x.table)) h.table

  begun-same : (d : Started) → (code_of d.answer ≡ 0 → Long u lengths)
      → called_bytes (cleared_rows x.table (started_in x.core d)) ≡ cleared u (in_bytes x) d
  unfolding cleared_rows cleared
  begun-same d h =
      ap (λ (t : List ℕ). called d.answer (record { core = started_memory x.core d; table = t }))
      (split₂ (λ (a : List Row) (b : List ℕ). table_bytes a ≡ b) _ _ _ _ _ _ refl
      (λ e. blank-same (h (eqb-true (code_of d.answer) 0 e))) (λ _. refl))

  blank : (d : Recorded) → code_of d.answer ≡ 0 → RowsOk (cleared_rows x.table d).lent.table
  unfolding cleared_rows
  blank d e = rw (if-true _ (replicate (length x.table) unused_row) x.table (eq-eqb (code_of d.answer) 0 e)) (blank_ok (length x.table))

  pub create-same : called_bytes (create_rows u x) ≡ create_call u (in_bytes x)
  unfolding create_rows create_core create_call
  create-same =
      begun-same _ (λ e. (create-long u lengths x.core.runs.money.totals x.core.acks x.core.out refl e).1)
      ∙ ap
      (λ (l : Lengths). cleared u (in_bytes x) (create_step u l x.core.runs.money.totals x.core.acks x.core.out))
      lengths-same

  pub create-ok : (code_of (create_rows u x).answer) ≡ 0 → RowsOk (create_rows u x).lent.table
  unfolding create_rows cleared_rows
  create-ok = blank (create_core u (length x.table) x.core)

  module _ (v : View) (nonce : ℕ) where
    pub recover-same : called_bytes (recover_rows u v nonce x) ≡ recover_call u v nonce (in_bytes x)
    unfolding recover_rows recover_core recover_call
    recover-same =
        begun-same _
        (λ e. (recover-long u lengths x.core.runs.money.totals x.core.acks x.core.out v nonce refl e).1)
        ∙ ap
        (λ (l : Lengths). cleared u (in_bytes x) (recover_step u v nonce l x.core.runs.money.totals x.core.acks x.core.out))
        lengths-same

    pub recover-ok : (code_of (recover_rows u v nonce x).answer) ≡ 0 → RowsOk (recover_rows u v nonce x).lent.table
    unfolding recover_rows cleared_rows
    recover-ok = blank (recover_core u v nonce (length x.table) x.core)
