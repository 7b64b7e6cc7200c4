-- What is known of the client whose entry a message carries. A Request or Prepare appends no more than this entry, and installs no log.
--     found-his                what was found is of him
--     still_one, entry-back    nothing appended; an entry that was appended, read back
--     appends                  what was found of its client is what the append asks for
-- Assumes nothing.
use Rattle.std.specs.Prelude.{Option, Some, None, Ok}
use mathlib.Core.Path.{◌≡◌, refl, sym, ap, ◌∙◌, subst}
use mathlib.Core.Bool.{true, false, false≢true}
use mathlib.Core.List.{List, ◌++◌}
use Prim.Native.Nat.{ℕ, ◌+◌, ◌*◌, ◌≤◌, ◌<◌}
use native.Mathlib.Omega.{arith}
use lib.ListN.{length, take, drop}
use lib.Seq.{drop_at, length-take-le}
use Rattle.numbers.specs.Numbers.{over, put_at, Bytes}
use Rattle.numbers.specs.declared.View.{View}
use Rattle.numbers.specs.declared.Op.{Op}
use Rattle.numbers.proofs.WordLaws.{split}
use Rattle.entries.specs.Entries.{entry_of, encode_entry, EntryFits}
use Rattle.entries.specs.declared.Entry.{Entry}
use Rattle.entries.proofs.EntryLaws.{entry_of-encode}
use Rattle.entries.proofs.PlaceLaws.{place_is}
use Rattle.frames.specs.Refusals.{check_frame}
use Rattle.frames.specs.declared.Message.{Message}
use Rattle.frames.specs.declared.Message.TheVariants.{Request, Prepare, PrepareOk, Commit, GetState, NewState, StartViewChange, DoViewChange, StartView, Recovery, RecoveryResponse}
use Rattle.client_table.specs.declared.Latest.{Latest}
use Rattle.client_table.specs.Found.{Found, found_in, AppendsFor}
use Rattle.client_table_bytes.specs.declared.MarkedRow.{MarkedRow}
use Rattle.client_table_bytes.specs.Layout.{byte_row, rows_of}
use Rattle.book.specs.Log.{with_entries}
use Rattle.book.specs.Memory.{Memory}
use Rattle.state.specs.declared.Returned.{Returned}
use Rattle.state.specs.declared.Replica.{Replica}
use Rattle.steps.specs.Steps.{Left, Spoke, accept_of, settled, asked_for_state, transferred, deferred, committed_and_acked}
use Rattle.steps.specs.declared.Accept.{Accept}
use Rattle.steps.specs.declared.Accept.TheVariants.{Ignore, Hear, Join, Rejoin, Take}
use Rattle.normal.specs.Request as Requests
use Rattle.normal.specs.Request.{request_step}
use Rattle.normal.specs.Prepare as Prepares
use Rattle.normal.specs.Prepare.{appended_by, prepare_step}
use Rattle.normal.specs.declared.prepare.Prepared.{Prepared}
use Rattle.normal.specs.declared.prepare.PrepareVerdict.{PrepareVerdict}
use Rattle.normal.specs.declared.prepare.PrepareVerdict.TheVariants.{Transfer, Again, Refuse, Append}
use Rattle.normal.specs.declared.request.RequestVerdict.{RequestVerdict}
use Rattle.normal.specs.declared.request.RequestVerdict.TheVariants as Calls
use Rattle.steps.specs.Recorded.{Recorded, recorded, Gathering}
use Rattle.normal.specs.Prepare.{prepared_by}
use Rattle.handlers.specs.Handlers.{handled, message_step}
use Rattle.handlers.proofs.FrameLaws.{request-ok, prepare-ok}
use Rattle.outside.specs.Calls.{carried_by, change_by}
use Rattle.replica.specs.Calls.{found_by, found_for}
use Rattle.state.specs.Answers.{installed_of}

-- what was found is of the client whose entry the message carries
pub found-his : (m : Message) (n : ℕ) (table : List ℕ) (f : Found MarkedRow) → found_for m n table ≡ Some f
    → (c : ℕ) × (carried_by m ≡ Some c) × (f ≡ found_in byte_row (rows_of n table) c)
unfolding found_for found_by
found-his m n table f h = go (carried_by m) refl h
  where
    go : (o : Option ℕ) → carried_by m ≡ o → found_by o n table ≡ Some f → (c : ℕ) × (carried_by m ≡ Some c) × (f ≡ found_in byte_row (rows_of n table) c)
    go None e q = absurd (cc q)
    go (Some c) e q = (c, e, cc q)

-- no more than one entry behind those of s, and it is of client c
record One (s : Replica) (c : ℕ) (a : Returned) (log : List ℕ) : Type 0 where
  kept : installed_of a ≡ false
  one : a.state.op.0 ≤ s.op.0 + 1
  client : s.op.0 < a.state.op.0 → (entry_of (drop (32 * s.op.0) log)).client ≡ c

still_one : {s : Replica} {c : ℕ} {a : Returned} {log : List ℕ} → installed_of a ≡ false → a.state.op.0 ≡ s.op.0 → One s c a log
still_one i e = record { kept = i; one = omega (arith, e); client = λ l. absurd (omega (arith, e, l)) }

entry-back : (n : ℕ) (log : List ℕ) (e : Entry) → EntryFits e → 32 * n ≤ length log
    → entry_of (drop (32 * n) (with_entries n (encode_entry e) log)) ≡ e
unfolding with_entries put_at over
entry-back n log e f l =
    let rest = drop (length (encode_entry e)) (drop (32 * n) log) in
    rw (← place_is n, drop_at (take (32 * n) log) (encode_entry e ++ rest) (32 * n) (length-take-le (32 * n) log l)) (entry_of-encode e rest f)

module _ (s : Replica) (m : Memory) (h : Gathering s m) where
  room : 32 * s.op.0 ≤ length m.runs.log
  room = omega (arith, h.sound.op_le, h.sound.log-long)

  next : (e : Entry) → EntryFits e → (entry_of (drop (32 * s.op.0) (with_entries s.op.0 (encode_entry e) m.runs.log))).client ≡ e.client
  next e f = ap (λ (x : Entry). x.client) (entry-back s.op.0 m.runs.log e f room)

  -- ---- Request

  call-one : (e : Entry) → EntryFits e → (k : RequestVerdict)
      → let d = Requests.by_call k s e m.runs.log m.acks m.out m.reps in One s e.client d.answer d.log
  unfolding Requests.by_call Requests.resent Requests.accepted
  call-one e f Calls.Nothing = still_one refl refl
  call-one e f (Calls.Resend o) = still_one refl refl
  call-one e f (Calls.Refuse k) = still_one refl refl
  call-one e f Calls.Append = record { kept = refl; one = omega arith; client = λ l. next e f }

  request-one : (e : Entry) (latest : Latest) → EntryFits e
      → let d = request_step s e latest m.runs.log m.acks m.out m.reps in One s e.client d.answer d.log
  unfolding request_step
  request-one e latest f = call-one e f (Requests.request_verdict s e latest (length m.out) (length m.reps))

  -- ---- Prepare

  module _ (c : ℕ) where
    abbrev LeftOne : Left → Type 0
    LeftOne d = One s c d.answer d.runs.log

    abbrev SpokeOne : Spoke → Type 0
    SpokeOne d = One s c d.answer m.runs.log

    asked-one : (t : Replica) (at : Op) → t.op.0 ≡ s.op.0 → SpokeOne (asked_for_state s t at m.out)
    unfolding asked_for_state
    asked-one t at e = split SpokeOne _ _ _ (λ _. still_one refl refl) (λ _. still_one refl e)

    deferred-one : (k : Accept) (v : View) → SpokeOne (deferred k s v m.out)
    unfolding deferred
    deferred-one Ignore v = still_one refl refl
    deferred-one Hear v = still_one refl refl
    deferred-one Join v = asked-one _ s.commit refl
    deferred-one Rejoin v = asked-one _ s.commit refl
    deferred-one Take v = still_one refl refl

  verdict-one : (p : Prepared) → EntryFits p.entry → (d : PrepareVerdict) → LeftOne p.entry.client (Prepares.by_prepare_verdict d s p m.runs m.out)
  unfolding Prepares.by_prepare_verdict appended_by transferred committed_and_acked settled
  verdict-one p f Transfer = asked-one p.entry.client _ s.op refl
  verdict-one p f Again = split (LeftOne p.entry.client) _ _ _ (λ _. still_one refl refl) (λ _. still_one refl refl)
  verdict-one p f (Refuse k) = still_one refl refl
  verdict-one p f Append =
      split (LeftOne p.entry.client) _ _ _ (λ _. still_one refl refl) λ _.
      split (LeftOne p.entry.client) _ _ _ (λ _. still_one refl refl)
      (λ _. record { kept = refl; one = omega arith; client = λ l. next p.entry f })

  prepare-one : (v : View) (p : Prepared) → EntryFits p.entry → LeftOne p.entry.client (prepare_step s v p m.runs m.out)
  unfolding prepare_step Prepares.taken_prepare
  prepare-one v p f =
      split (LeftOne p.entry.client) _ _ _ (λ _. verdict-one p f (Prepares.prepare_verdict s p))
      (λ _. deferred-one p.entry.client (accept_of s v) v)

-- ---- any message that carries an entry

abbrev OneBy : Replica → ℕ → Recorded → Type 0
OneBy s c d = One s c d.answer d.memory.runs.log

handled-one : (x : Message) (s : Replica) (latest : Latest) (frame : List ℕ) (m : Memory) → Gathering s m → Bytes frame
    → check_frame s.setup frame ≡ Ok x → (c : ℕ) → carried_by x ≡ Some c → OneBy s c (handled x s latest frame m)
unfolding handled carried_by
handled-one (Request e) s latest frame m g b ok c h =
    let his : OneBy s e.client (handled (Request e) s latest frame m) = request-one s m g e latest (request-ok s.setup frame e ok b).0 in
    let P : ℕ → Type 0 = λ k. OneBy s k (handled (Request e) s latest frame m) in
    subst P (cc h) his
handled-one (Prepare v o k e) s latest frame m g b ok c h =
    let his : OneBy s e.client (handled (Prepare v o k e) s latest frame m) =
    prepare-one s m g v (prepared_by o k e latest) (prepare-ok s.setup frame v o k e ok b).0 in
    let P : ℕ → Type 0 = λ n. OneBy s n (handled (Prepare v o k e) s latest frame m) in
    subst P (cc h) his
handled-one (PrepareOk v o r) s latest frame m g b ok c h = absurd (cc h)
handled-one (Commit v k) s latest frame m g b ok c h = absurd (cc h)
handled-one (GetState r v o) s latest frame m g b ok c h = absurd (cc h)
handled-one (NewState v a z k) s latest frame m g b ok c h = absurd (cc h)
handled-one (StartViewChange v r) s latest frame m g b ok c h = absurd (cc h)
handled-one (DoViewChange v r l o k) s latest frame m g b ok c h = absurd (cc h)
handled-one (StartView v o k) s latest frame m g b ok c h = absurd (cc h)
handled-one (Recovery r x v) s latest frame m g b ok c h = absurd (cc h)
handled-one (RecoveryResponse v x r t) s latest frame m g b ok c h = absurd (cc h)

message-one : (x : Message) (s : Replica) (latest : Latest) (frame : List ℕ) (m : Memory) → Gathering s m → Bytes frame
    → check_frame s.setup frame ≡ Ok x → (c : ℕ) → carried_by x ≡ Some c → OneBy s c (message_step x s latest frame m)
unfolding message_step
message-one x s latest frame m g b ok c h =
    split (OneBy s c) _ _ _ (λ _. handled-one x s latest frame m g b ok c h) (λ _. still_one refl refl)

pub appends : (x : Message) (s : Replica) (latest : Latest) (frame : List ℕ) (m : Memory) → Gathering s m → Bytes frame
    → check_frame s.setup frame ≡ Ok x → (c : ℕ) → carried_by x ≡ Some c
    → (a : Returned) (m' : Memory) → recorded a m' ≡ message_step x s latest frame m
    → (f : Found MarkedRow) (table : List ℕ) → f ≡ found_in byte_row (rows_of s.setup.room table) c
    → AppendsFor byte_row (change_by s a) f (rows_of s.setup.room table) m'.runs.log
appends x s latest frame m g b ok c h a m' e f table p =
    let o = subst (OneBy s c) (sym e) (message-one x s latest frame m g b ok c h) in
    record {
      kept = o.kept;
      one = o.one;
      found = λ l. p ∙ ap (found_in byte_row (rows_of s.setup.room table)) (sym (o.client l));
    }
