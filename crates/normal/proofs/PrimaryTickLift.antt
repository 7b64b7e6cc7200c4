-- A Normal primary's tick, lifted to the model: the heartbeat, and a Prepare for every op that isn't committed. Assumes nothing.
use Prim.Native.Nat.{ℕ, zero, suc, ◌+◌, ◌-◌, ◌≤◌}
use native.Mathlib.Nat.{add-zero}
use native.Mathlib.Omega.{arith}
use mathlib.Core.Path.{◌≡◌, refl, sym, ap, ◌∙◌}
use mathlib.Core.List.{List, [], ◌∷◌, ◌++◌, append_assoc, append-nil}
use lib.ListN.{length, take, drop, length-drop, length-append}
use lib.Seq.{take_all}
use Rattle.numbers.specs.Cells.{packed}
use Rattle.numbers.proofs.CellLaws.{cells-length, packed-append}
use Rattle.entries.specs.Entries.{entries}
use Rattle.entries.specs.Places.{entry_in}
use Rattle.entries.specs.declared.Entry.{Entry}
use Rattle.config.specs.declared.Setup.{Setup}
use Rattle.clock.specs.Clock.{tick_of}
use Rattle.clock.specs.declared.Duty.TheVariants.{Lead}
use Rattle.frames.specs.declared.Message.TheVariants.{Prepare, Commit}
use Rattle.state.specs.State as S
use Rattle.state.specs.declared.Replica.{Replica}
use Rattle.normal.specs.Tick as T
use Rattle.normal.specs.Tick.{Leading, heartbeat_length, prepares_length, heartbeat_of, prepares_to, prepares_of}
use Rattle.normal.proofs.SendLaws.{beat-long}
use Rattle.normal.proofs.TickLaws.{prepares-long}
use Rattle.model.specs.State.{op_number, ClientEntry, State, set_clock}
use Rattle.model.specs.Sending.{sent_bytes, messages_out, send_prepare, send_prepares, send_commit}
use Rattle.layout.specs.Layout.{book_of, store_of, model_of}
use Rattle.model.specs.Steps.{fitted, primary_tick}
use Rattle.layout.specs.Shown.{Given, Shown}
use Rattle.layout.proofs.BookLift.{due-more, due-length}
use Rattle.steps.proofs.StepLift.{of_spoke, spoke-shown, no-growth}
use Rattle.steps.proofs.SendLift.{bare-bytes}

-- one op more, at the end
prepares-end : (u : Setup) (m : State) (o : ℕ) (es : List Entry) (e : Entry)
    → send_prepares u m o (es ++ e ∷ []) ≡ send_prepares u m o es ++ send_prepare u m (o + length es) e
unfolding send_prepares
prepares-end u m o [] e = rw (add-zero o) (append-nil (send_prepare u m o e))
prepares-end u m o (x ∷ es) e =
    let n : o + 1 + length es ≡ o + suc (length es) = omega arith in
    rw (prepares-end u m (o + 1) es e, n) (sym (append_assoc (send_prepare u m o x) (send_prepares u m (o + 1) es) _))

module _ (c : Given) (table : List ClientEntry) (applied : List Entry) (leading : Leading c.state (length c.runs.log)) where
  abbrev s : Replica
  s = c.state

  abbrev log : List ℕ
  log = c.runs.log

  abbrev now : State
  now = model_of s c.runs table applied

  abbrev next : State
  next = set_clock now (tick_of s.setup.timeout Lead s.clock).clock

  beat-bytes : messages_out (send_commit s.setup now) ≡ heartbeat_of s
  unfolding send_commit model_of book_of
  beat-bytes = bare-bytes s.setup (Commit s.view s.commit)

  prepare-bytes : (o i : ℕ) (e : Entry) → o ≡ i + 1 → e ≡ entry_in log i → messages_out (send_prepare s.setup now o e) ≡ prepares_to s i log
  unfolding send_prepare prepares_to model_of book_of
  prepare-bytes o i e p q =
      bare-bytes s.setup (Prepare s.view (op_number o) s.commit e) ∙ rw (p, q)

  -- of the first k ops that aren't committed
  some_bytes : (k : ℕ) → s.commit.0 + k ≤ s.op.0
      → messages_out (send_prepares s.setup now (s.commit.0 + 1) (take k (drop s.commit.0 (entries s.op.0 log)))) ≡ prepares_of s log k
  unfolding messages_out packed send_prepares prepares_of
  some_bytes zero h = refl
  some_bytes (suc k) h =
      let es = take k (drop s.commit.0 (entries s.op.0 log)) in
      let n : s.commit.0 + 1 + length es ≡ s.commit.0 + k + 1 =
      omega (arith, due-length log s.op.0 s.commit.0 k (omega arith)) in
      ap (λ (xs : List Entry). packed sent_bytes (send_prepares s.setup now (s.commit.0 + 1) xs))
      (due-more log s.op.0 s.commit.0 k (omega arith))
      ∙ ap (packed sent_bytes) (prepares-end s.setup now (s.commit.0 + 1) es (entry_in log (s.commit.0 + k)))
      ∙ packed-append sent_bytes (send_prepares s.setup now (s.commit.0 + 1) es) _
      ∙ λ i. some_bytes k (omega arith) i ++ prepare-bytes _ (s.commit.0 + k) (entry_in log (s.commit.0 + k)) n refl i

  all-bytes : messages_out (send_prepares s.setup now (s.commit.0 + 1) (drop s.commit.0 (entries s.op.0 log)))
      ≡ prepares_of s log (s.op.0 - s.commit.0)
  all-bytes =
      let es = drop s.commit.0 (entries s.op.0 log) in
      let n : length es ≤ s.op.0 - s.commit.0 = simp (length-drop, cells-length) (omega arith) in
      ap (λ (xs : List Entry). messages_out (send_prepares s.setup now (s.commit.0 + 1) xs))
      (sym (take_all (s.op.0 - s.commit.0) es n))
      ∙ some_bytes (s.op.0 - s.commit.0) (omega (arith, leading.commit-le))

  tick-bytes : messages_out
      (send_commit s.setup now ++ send_prepares s.setup now (s.commit.0 + 1) (drop s.commit.0 (entries s.op.0 log)))
      ≡ heartbeat_of s ++ prepares_of s log (s.op.0 - s.commit.0)
  unfolding messages_out
  tick-bytes = packed-append sent_bytes (send_commit s.setup now) _ ∙ λ i. beat-bytes i ++ all-bytes i

  tick-long : length (heartbeat_of s ++ prepares_of s log (s.op.0 - s.commit.0))
      ≡ heartbeat_length s + prepares_length s (s.op.0 - s.commit.0)
  tick-long =
      length-append (heartbeat_of s) (prepares_of s log (s.op.0 - s.commit.0))
      ∙ λ i. beat-long s.setup leading.sized s.view s.commit i + prepares-long s log leading (s.op.0 - s.commit.0) i

  reads : model_of (S.with_clock s (tick_of s.setup.timeout Lead s.clock).clock) c.runs next.book.table next.book.applied ≡ next
  unfolding model_of book_of store_of set_clock
  reads = refl

  pub primary-tick-shown : Shown c (of_spoke c (T.primary_tick s log c.out)) now.book
      (fitted (length c.out) (length c.reps) (primary_tick s.setup now))
  unfolding primary_tick T.primary_tick model_of book_of store_of set_clock
  primary-tick-shown =
      spoke-shown c (S.with_clock s (tick_of s.setup.timeout Lead s.clock).clock) now.book next refl reads (no-growth now.book)
      _ _ _ tick-bytes tick-long
