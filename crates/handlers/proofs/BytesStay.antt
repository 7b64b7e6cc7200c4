-- Runs that hold bytes hold bytes again after every message and every tick, whatever else is lent. Assumes nothing.
use mathlib.Core.Bool.{Bool, true, false}
use mathlib.Core.List.{List}
use Prim.Native.Nat.{ℕ, ◌*◌}
use lib.ListN.{drop}
use Rattle.numbers.specs.Numbers.{Bytes}
use Rattle.numbers.specs.declared.View.{View}
use Rattle.numbers.specs.declared.Op.{Op}
use Rattle.numbers.proofs.WordLaws.{split}
use Rattle.numbers.proofs.NumberLaws.{take-bytes, drop-bytes}
use Rattle.numbers.proofs.RunLaws.{put-bytes}
use Rattle.entries.specs.declared.Entry.{Entry}
use Rattle.clock.specs.Clock.{tick_of}
use Rattle.clock.specs.declared.Ticked.{Ticked}
use Rattle.clock.specs.declared.Duty.TheVariants.{Change}
use Rattle.frames.specs.Messages.{carried_bytes}
use Rattle.frames.specs.declared.Message.{Message}
use Rattle.frames.specs.declared.Message.TheVariants.{Request, Prepare, PrepareOk, Commit, GetState, NewState, StartViewChange, DoViewChange, StartView, Recovery, RecoveryResponse}
use Rattle.client_table.specs.declared.Latest.{Latest}
use Rattle.state.specs.Lengths.{stored_place}
use Rattle.state.specs.declared.Replica.{Replica}
use Rattle.state.specs.declared.Report.{Report}
use Rattle.state.specs.declared.Reports.{Reports}
use Rattle.reports.specs.Judge.{log_from, chosen_log}
use Rattle.reports.specs.Store.{kept_log, chosen_over}
use Rattle.reports.specs.declared.Best.{Best}
use Rattle.reports.specs.declared.Judged.{Judged}
use Rattle.reports.specs.declared.Judged.TheVariants.{Wait, Refuse, Begin}
use Rattle.normal.specs.Request as Request
use Rattle.normal.specs.Request.{request_step, of_served}
use Rattle.normal.specs.PrepareOk as PrepareOk
use Rattle.normal.specs.PrepareOk.{Counted, prepare_ok_step, of_counted}
use Rattle.normal.specs.declared.prepare_ok.Count.{Count}
use Rattle.normal.specs.declared.prepare_ok.Count.TheVariants as Counts
use Rattle.normal.specs.declared.request.RequestVerdict.{RequestVerdict}
use Rattle.normal.specs.declared.request.RequestVerdict.TheVariants as Calls
use Rattle.view_change.specs.StartView as StartView
use Rattle.view_change.specs.StartView.{Joined, joined_by, start_view_step, of_joined}
use Rattle.view_change.specs.declared.StartViewVerdict.{StartViewVerdict}
use Rattle.view_change.specs.declared.StartViewVerdict.TheVariants as Joins
use Rattle.do_view_change.specs.Begin.{begun_in, begin_step}
use Rattle.steps.specs.Recorded.{Recorded}
use Rattle.do_view_change.specs.Record.{kept_by, started_by, by_decision, record_step, send_step, do_view_change_step}
use Rattle.book.specs.Memory.{Memory}
use Rattle.do_view_change.specs.declared.Decision.{Decision}
use Rattle.do_view_change.specs.declared.Decision.TheVariants.{Keep, No, Start}
use Rattle.voting.specs.Votes.{maybe_step, same_view, start_view_change_step}
use Rattle.voting.specs.Tick.{repeated, change_tick}
use Rattle.recovery.specs.Recovery.{Collected, by_response, recovered_by, collected_by, response_step, of_collected}
use Rattle.normal.specs.Prepare.{prepared_by}
use Rattle.transfer.specs.NewState.{part_of}
use Rattle.handlers.specs.Handlers.{handled, message_step, changing_tick, idle_step}
use Rattle.handlers.proofs.RunBytes.{RunBytes, entry-bytes, with-bytes, with-log, committed-bytes, settled-bytes}
use Rattle.handlers.proofs.RunBytes.{acked-bytes, commit-bytes, prepare-bytes, new-state-bytes}
use Rattle.frames.proofs.MessageLaws.{carried-in-bytes}

-- log, results, totals and the stored logs
abbrev pub InBytes : Memory → Type 0
InBytes m = RunBytes m.runs × Bytes m.stored

module _ (s : Replica) (m : Memory) (h : InBytes m) where
  abbrev After : Recorded → Type 0
  After d = InBytes d.memory

  call-bytes : (e : Entry) (k : RequestVerdict)
      → After (of_served m (Request.by_call k s e m.runs.log m.acks m.out m.reps))
  unfolding Request.by_call Request.resent Request.accepted
  call-bytes e Calls.Nothing = h
  call-bytes e (Calls.Resend o) = h
  call-bytes e (Calls.Refuse k) = h
  call-bytes e Calls.Append =
      (with-log m.runs s.op.0 _ h.0 (entry-bytes e), h.1)

  count-bytes : (o : Op) (r : ℕ) (d : Count) → After (of_counted m (PrepareOk.by_count d s o r m.runs.log m.runs.money m.acks m.reps))
  unfolding PrepareOk.by_count PrepareOk.committed_by
  count-bytes o r Counts.Nothing = h
  count-bytes o r Counts.Note = h
  count-bytes o r (Counts.Refuse k) = h
  count-bytes o r Counts.Commit =
      (record { log = h.0.log; money = committed-bytes _ _ _ _ m.runs.money h.0.money }, h.1)

  prepare-ok-bytes : (v : View) (o : Op) (r : ℕ) → After (of_counted m (prepare_ok_step s v o r m.runs.log m.runs.money m.acks m.reps))
  unfolding prepare_ok_step
  prepare-ok-bytes v o r = split (λ (d : Counted). After (of_counted m d)) _ _ _ (λ _. h) (λ _. count-bytes o r _)

  join-bytes : (d : StartViewVerdict) (v : View) (o c : Op) (part : List ℕ) → Bytes part
      → After (of_joined m (StartView.by_start_view_verdict d s v o c part m.runs m.acks m.out))
  unfolding StartView.by_start_view_verdict joined_by
  join-bytes Joins.Ignore v o c part b = h
  join-bytes Joins.Refuse v o c part b = h
  join-bytes Joins.Join v o c part b =
      split (λ (d : Joined). After (of_joined m d)) _ _ _ (λ _. h)
      (λ _.
      (acked-bytes _ _ _ _ _ m.out (with-log m.runs 0 _ h.0 (take-bytes (32 * o.0) part b)), h.1))

  -- ---- reports and responses: the log of replica r is in `fresh`

  chosen-bytes : (b : Best) (r room : ℕ) (fresh : List ℕ) → Bytes fresh → Bytes (chosen_over b r room m.stored fresh m.runs.log)
  unfolding chosen_over chosen_log log_from
  chosen-bytes b r room fresh f =
      let k = 32 * b.report.op.0 in
      let at = stored_place room b.id in
      with-bytes 0 _ m.runs.log
      (split Bytes _ _ _ (λ _. take-bytes k fresh f) (λ _. take-bytes k (drop at m.stored) (drop-bytes at m.stored h.1))) h.0.log

  kept-bytes : (room r : ℕ) (o : Op) (fresh : List ℕ) → Bytes fresh → Bytes (kept_log room r o fresh m.stored)
  unfolding kept_log
  kept-bytes room r o fresh f = put-bytes _ _ m.stored (take-bytes (32 * o.0) fresh f) h.1

  decision-bytes : (z : Decision) (t : Replica) (rows : Reports) (r : ℕ) (o : Op) (first : Bool) (fresh : List ℕ) → Bytes fresh
      → After (by_decision z s t rows r o first fresh m)
  unfolding by_decision kept_by started_by begin_step begun_in
  decision-bytes (No k) t rows r o first fresh f = h
  decision-bytes Keep t rows r o first fresh f = (h.0, kept-bytes _ r o fresh f)
  decision-bytes (Start b g) t rows r o first fresh f =
      (record { log = chosen-bytes b r _ fresh f; money = committed-bytes _ _ _ _ m.runs.money h.0.money }, h.1)

  record-bytes : (t : Replica) (r : ℕ) (d : Report) (first : Bool) (fresh : List ℕ) → Bytes fresh → After (record_step s t r d first fresh m)
  unfolding record_step
  record-bytes t r d first fresh f = decision-bytes _ t _ r d.op first fresh f

  send-bytes : (t : Replica) (first : Bool) → After (send_step s t first m)
  unfolding send_step
  send-bytes t first = split After _ _ _ (λ _. record-bytes t _ _ first m.runs.log h.0.log) (λ _. h)

  do-view-change-bytes : (v : View) (r : ℕ) (l : View) (o c : Op) (part : List ℕ) → Bytes part → After (do_view_change_step s v r l o c part m)
  unfolding do_view_change_step
  do-view-change-bytes v r l o c part b =
      split After _ _ _ (λ _. h) λ _.
      split After _ _ _ (λ _. h) λ _.
      split After _ _ _ (λ _. record-bytes _ r _ true part b) λ _.
      split After _ _ _ (λ _. h) (λ _. record-bytes s r _ false part b)

  maybe-bytes : (t : Replica) (first : Bool) → After (maybe_step s t first m)
  unfolding maybe_step
  maybe-bytes t first = split After _ _ _ (λ _. send-bytes _ first) (λ _. h)

  start-view-change-bytes : (v : View) (r : ℕ) → After (start_view_change_step s v r m)
  unfolding start_view_change_step same_view
  start-view-change-bytes v r =
      split After _ _ _ (λ _. h) λ _.
      split After _ _ _ (λ _. maybe-bytes _ true) λ _.
      split After _ _ _ (λ _. maybe-bytes _ false) λ _.
      split After _ _ _ (λ _. h) λ _.
      split After _ _ _ (λ _. h) (λ _. h)

  judged-bytes : (j : Judged) (rows : Reports) (r : ℕ) (o : Op) (fresh : List ℕ) → Bytes fresh
      → After (of_collected m (by_response j s rows r o fresh m.runs m.stored))
  unfolding by_response recovered_by
  judged-bytes Wait rows r o fresh f = (h.0, kept-bytes _ r o fresh f)
  judged-bytes Refuse rows r o fresh f = h
  judged-bytes (Begin b g) rows r o fresh f =
      (settled-bytes _ g _ (record { log = chosen-bytes b r _ fresh f; money = h.0.money }), h.1)

  response-bytes : (d : Report) (r : ℕ) (part : List ℕ) → Bytes part → After (of_collected m (collected_by s r d part m.runs m.stored))
  unfolding collected_by
  response-bytes d r part b = judged-bytes _ _ r d.op part b

  -- ---- on_message, and on_idle

  handled-bytes : (x : Message) (latest : Latest) (frame : List ℕ) → Bytes frame → After (handled x s latest frame m)
  unfolding handled request_step start_view_step response_step
  handled-bytes (Request e) latest frame b = call-bytes e _
  handled-bytes (Prepare v o c e) latest frame b = (prepare-bytes s m.runs h.0 m.out v (prepared_by o c e latest), h.1)
  handled-bytes (PrepareOk v o r) latest frame b = prepare-ok-bytes v o r
  handled-bytes (Commit v c) latest frame b = (commit-bytes s m.runs h.0 m.out v c, h.1)
  handled-bytes (GetState r v o) latest frame b = h
  handled-bytes (NewState v a z c) latest frame b =
      (new-state-bytes s m.runs h.0 m.out v (part_of a z c) (carried_bytes (NewState v a z c) frame) (carried-in-bytes (NewState v a z c) frame b), h.1)
  handled-bytes (StartViewChange v r) latest frame b = start-view-change-bytes v r
  handled-bytes (DoViewChange v r l o c) latest frame b = do-view-change-bytes v r l o c (carried_bytes (DoViewChange v r l o c) frame) (carried-in-bytes (DoViewChange v r l o c) frame b)
  handled-bytes (StartView v o c) latest frame b = join-bytes _ v o c (carried_bytes (StartView v o c) frame) (carried-in-bytes (StartView v o c) frame b)
  handled-bytes (Recovery r x v) latest frame b = h
  handled-bytes (RecoveryResponse v x r t) latest frame b =
      split (λ (d : Collected). After (of_collected m d)) _ _ _ (λ _. h)
      (λ _. response-bytes _ r (carried_bytes (RecoveryResponse v x r t) frame) (carried-in-bytes (RecoveryResponse v x r t) frame b))

  repeated-bytes : (t : Ticked) → After (repeated s t.clock m)
  unfolding repeated
  repeated-bytes t = split After _ _ _ (λ _. h) λ _. split After _ _ _ (λ _. send-bytes _ true) (λ _. h)

pub message-bytes : (x : Message) (s : Replica) (latest : Latest) (frame : List ℕ) (m : Memory) → InBytes m → Bytes frame
    → InBytes (message_step x s latest frame m).memory
unfolding message_step
message-bytes x s latest frame m h b = split (λ (d : Recorded). InBytes d.memory) _ _ _ (λ _. handled-bytes s m h x latest frame b) (λ _. h)

pub idle-bytes : (s : Replica) (m : Memory) → InBytes m → InBytes (idle_step s m).memory
unfolding idle_step changing_tick change_tick
idle-bytes s m h =
    split (λ (d : Recorded). InBytes d.memory) _ _ _ (λ _. h) λ _.
    split (λ (d : Recorded). InBytes d.memory) _ _ _ (λ _. h) λ _.
    split (λ (d : Recorded). InBytes d.memory) _ _ _
    (λ _.
    split (λ (d : Recorded). InBytes d.memory) _ _ _ (λ _. h) (λ _. repeated-bytes s m h (tick_of s.setup.timeout Change s.clock)))
    (λ _. h)
