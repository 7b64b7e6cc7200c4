-- Request, Prepare, PrepareOk, Commit and a primary's tick keep the entry rules: what is appended was carried by a frame that passed. Assumes nothing.
use Prim.Native.Nat.{ℕ, ◌+◌, ◌-◌, ◌<◌}
use native.Mathlib.Omega.{arith}
use mathlib.Core.Path.{◌≡◌, refl}
use mathlib.Core.Bool.{true, false}
use lib.ListN.{length, get_or}
use Rattle.numbers.specs.declared.View.{View}
use Rattle.numbers.specs.declared.Op.{Op}
use Rattle.numbers.proofs.WordLaws.{split}
use Rattle.entries.specs.Entries.{operation_ok, encode_entry, entries_ok, EntryFits}
use Rattle.entries.specs.declared.Entry.{Entry}
use Rattle.entries.proofs.PlaceLaws.{place_is}
use Rattle.client_table.specs.declared.Latest.{Latest}
use Rattle.book.specs.Log.{with_entries}
use Rattle.book.proofs.EntryRules.{append-ok}
use Rattle.state.specs.State.{heard_by, with_log}
use Rattle.state.specs.declared.Replica.{Replica}
use Rattle.steps.specs.Steps.{Left, accept_of, settled, committed_and_acked}
use Rattle.normal.specs.Request as Request
use Rattle.normal.specs.Request.{request_step, next_op, of_served}
use Rattle.normal.specs.Prepare as Prepare
use Rattle.normal.specs.Prepare.{appended_by, with_entry, lower_of, prepare_step}
use Rattle.normal.specs.PrepareOk as PrepareOk
use Rattle.normal.specs.PrepareOk.{Counted, prepare_ok_step, of_counted}
use Rattle.normal.specs.Commit.{taken_commit, commit_step}
use Rattle.normal.specs.declared.prepare.Prepared.{Prepared}
use Rattle.normal.specs.declared.prepare.PrepareVerdict.{PrepareVerdict}
use Rattle.normal.specs.declared.prepare.PrepareVerdict.TheVariants.{Transfer, Again, Refuse, Append}
use Rattle.normal.specs.declared.prepare_ok.Count.{Count}
use Rattle.normal.specs.declared.prepare_ok.Count.TheVariants as Counts
use Rattle.normal.specs.declared.request.RequestVerdict.{RequestVerdict}
use Rattle.normal.specs.declared.request.RequestVerdict.TheVariants as Calls
use Rattle.normal.proofs.PrepareLaws.{room-left}
use Rattle.normal.proofs.RequestLaws.{append-fits}
use Rattle.book.specs.Memory.{Memory}
use Rattle.steps.specs.Recorded.{of_left}
use Rattle.steps.proofs.Ruled.{Has, RuledBy, still, wrote, transferred-has, deferred-has, acked-left, SentRuled}
use Rattle.normal.specs.Tick.{primary_tick}

module _ (s : Replica) (m : Memory) (h : Has s m) where
  abbrev LeftRuled : Left → Type 0
  LeftRuled d = RuledBy (of_left m d)

  -- ---- Commit

  pub commit-ruled : (v : View) (c : Op) → RuledBy (of_left m (commit_step s v c m.runs m.out))
  unfolding commit_step taken_commit settled
  commit-ruled v c =
      split LeftRuled _ _ _
      (λ _. split LeftRuled _ _ _ (λ _. still (transferred-has s m h m.out)) (λ _. still h))
      (λ _. still (deferred-has s m h (accept_of s v) v m.out))

  -- ---- Request, Prepare

  -- the entry after our last
  next-ok : (e : Entry) → EntryFits e × (operation_ok e.operation e.cents ≡ true) → s.op.0 < s.setup.room
      → entries_ok (s.op.0 + 1) (with_entries s.op.0 (encode_entry e) m.runs.log) ≡ true
  next-ok e f l =
      append-ok s.op.0 m.runs.log e f.0 f.1 (omega (arith, place_is (s.op.0 + 1), l, h.log-long)) h.log-ok

  call-ruled : (e : Entry) (latest : Latest) → EntryFits e × (operation_ok e.operation e.cents ≡ true)
      → (k : RequestVerdict) → Request.request_verdict s e latest (length m.out) (length m.reps) ≡ k
      → RuledBy (of_served m (Request.by_call k s e m.runs.log m.acks m.out m.reps))
  unfolding Request.by_call Request.resent Request.accepted
  call-ruled e latest f Calls.Nothing q = still h
  call-ruled e latest f (Calls.Resend o) q = still h
  call-ruled e latest f (Calls.Refuse k) q = still h
  call-ruled e latest f Calls.Append q = wrote h (next-ok e f (append-fits s (length m.out) (length m.reps) e latest q).0)

  pub request-ruled : (e : Entry) (latest : Latest) → EntryFits e × (operation_ok e.operation e.cents ≡ true)
      → RuledBy (of_served m (request_step s e latest m.runs.log m.acks m.out m.reps))
  unfolding request_step
  request-ruled e latest f = call-ruled e latest f (Request.request_verdict s e latest (length m.out) (length m.reps)) refl

  verdict-ruled : (p : Prepared) → EntryFits p.entry × (operation_ok p.entry.operation p.entry.cents ≡ true)
      → (d : PrepareVerdict) → d ≡ Prepare.prepare_verdict s p → LeftRuled (Prepare.by_prepare_verdict d s p m.runs m.out)
  unfolding Prepare.by_prepare_verdict appended_by committed_and_acked settled
  verdict-ruled p f Transfer e = still (transferred-has s m h m.out)
  verdict-ruled p f Again e = split LeftRuled _ _ _ (λ _. still h) (λ _. still h)
  verdict-ruled p f (Refuse k) e = still h
  verdict-ruled p f Append e =
      split LeftRuled _ _ _ (λ _. still h)
      (λ a.
      acked-left LeftRuled s (with_log (heard_by s) (next_op s) s.commit) (lower_of p.commit (next_op s)) false
      (with_entry s p m.runs) m.out a
      (wrote h (next-ok p.entry f (room-left s p Append e refl))))

  pub prepare-ruled : (v : View) (p : Prepared) → EntryFits p.entry × (operation_ok p.entry.operation p.entry.cents ≡ true)
      → RuledBy (of_left m (prepare_step s v p m.runs m.out))
  unfolding prepare_step Prepare.taken_prepare
  prepare-ruled v p f =
      split LeftRuled _ _ _ (λ _. verdict-ruled p f (Prepare.prepare_verdict s p) refl) (λ _. still (deferred-has s m h (accept_of s v) v m.out))

  -- ---- PrepareOk

  count-ruled : (o : Op) (r : ℕ) (d : Count)
      → RuledBy (of_counted m (PrepareOk.by_count d s o r m.runs.log m.runs.money m.acks m.reps))
  unfolding PrepareOk.by_count PrepareOk.committed_by
  count-ruled o r Counts.Nothing = still h
  count-ruled o r Counts.Note = still h
  count-ruled o r (Counts.Refuse k) = still h
  count-ruled o r Counts.Commit = still h

  pub prepare-ok-ruled : (v : View) (o : Op) (r : ℕ)
      → RuledBy (of_counted m (prepare_ok_step s v o r m.runs.log m.runs.money m.acks m.reps))
  unfolding prepare_ok_step
  prepare-ok-ruled v o r =
      split (λ (d : Counted). RuledBy (of_counted m d)) _ _ _ (λ _. still h)
      (λ _. count-ruled o r (PrepareOk.ack_verdict s o (get_or m.acks (o.0 - 1) 0) r (length m.reps)))

-- ---- the tick of a primary

module _ (s : Replica) (m : Memory) (h : Has s m) where
  pub primary-tick-ruled : SentRuled m (primary_tick s m.runs.log m.out)
  unfolding primary_tick
  primary-tick-ruled = split (SentRuled m) _ _ _ (λ _. still h) λ _. still h
