-- `handlers::message::handle` meets its contract. Assumes nothing.
use Rattle.std.specs.Prelude.{Ok, Err}
use Rattle.handlers.proofs.HandleLaws.{request-is, prepare-is, prepare-ok-is, commit-is, get-state-is, new-state-is, start-view-change-is, do-view-change-is, start-view-is, recovery-is, response-is}
use Rattle.handlers.proofs.FrameLaws.{ok-fit, call-fit, new-state-fit, report-fit, start-view-fit, response-fit}
use mathlib.Core.Path.{ap, ◌∙◌}
use Rattle.frames.specs.declared.Message.{Message}
use Rattle.handlers.proofs.message.handle.Goals as goal

pub on_prepare_ok-requires : goal.on_prepare_ok-requires
on_prepare_ok-requires c = let a = c.args in let f = ok-fit a.s.setup a.frame.now _ _ _ (c.requires.1 ∙ ap (λ (x : Message). Ok x) c.in-PrepareOk.is) in (c.requires.0.sound, (c.requires.0.acks-long, (f.0, f.1)))

pub on_new_state-requires : goal.on_new_state-requires
on_new_state-requires c = let a = c.args in let f = new-state-fit a.s.setup a.frame.now _ _ _ _ (c.requires.1 ∙ ap (λ (x : Message). Ok x) c.in-NewState.is) in (c.requires.0.sound, (record { start-le = f.0; end-le = f.1.0; commit-le = f.1.1.0 }, rw c.carried_bytes-part.ensures f.1.1.1))

pub on_start_view_change-requires : goal.on_start_view_change-requires
on_start_view_change-requires c = let a = c.args in (c.requires.0, call-fit a.s.setup a.frame.now _ _ (c.requires.1 ∙ ap (λ (x : Message). Ok x) c.in-StartViewChange.is))

pub on_do_view_change-requires : goal.on_do_view_change-requires
on_do_view_change-requires c = let a = c.args in let f = report-fit a.s.setup a.frame.now _ _ _ _ _ (c.requires.1 ∙ ap (λ (x : Message). Ok x) c.in-DoViewChange.is) in (c.requires.0, record { sender = f.0; op_le = f.1.0; commit-le = f.1.1.0; long = rw c.carried_bytes-part-in-DoViewChange.ensures f.1.1.1 })

pub on_start_view-requires : goal.on_start_view-requires
on_start_view-requires c = let a = c.args in let f = start-view-fit a.s.setup a.frame.now _ _ _ (c.requires.1 ∙ ap (λ (x : Message). Ok x) c.in-StartView.is) in (c.requires.0.sound, (record { op_le = f.0; commit-le = f.1.0 }, (rw c.carried_bytes-part-in-StartView.ensures f.1.1, c.requires.0.acks-long)))

pub on_recovery_response-requires : goal.on_recovery_response-requires
on_recovery_response-requires c = let a = c.args in let f = response-fit a.s.setup a.frame.now _ _ _ _ (c.requires.1 ∙ ap (λ (x : Message). Ok x) c.in-RecoveryResponse.is) in (record { sound = c.requires.0.sound; reports = c.requires.0.reports; stored-long = c.requires.0.stored-long }, record { sender = f.0; op_le = f.1.0; commit-le = f.1.1.0; long = rw c.carried_bytes-part-in-RecoveryResponse.ensures f.1.1.1 })

pub returns-in-Request : goal.returns-in-Request
returns-in-Request c = let a = c.args in request-is a.s a.m a.latest a.frame.now a.log.now a.results.now a.totals.now a.acks.now a.stored.now a.out.now a.reps.now _ c.in-Request.is c.on_request.ensures

pub returns-in-Prepare : goal.returns-in-Prepare
returns-in-Prepare c = let a = c.args in prepare-is a.s a.m a.latest a.frame.now a.log.now a.results.now a.totals.now a.acks.now a.stored.now a.out.now a.reps.now _ _ _ _ c.in-Prepare.is c.on_prepare.ensures

pub returns-in-PrepareOk : goal.returns-in-PrepareOk
returns-in-PrepareOk c = let a = c.args in prepare-ok-is a.s a.m a.latest a.frame.now a.log.now a.results.now a.totals.now a.acks.now a.stored.now a.out.now a.reps.now _ _ _ c.in-PrepareOk.is c.on_prepare_ok.ensures

pub returns-in-Commit : goal.returns-in-Commit
returns-in-Commit c = let a = c.args in commit-is a.s a.m a.latest a.frame.now a.log.now a.results.now a.totals.now a.acks.now a.stored.now a.out.now a.reps.now _ _ c.in-Commit.is c.on_commit.ensures

pub returns-in-GetState : goal.returns-in-GetState
returns-in-GetState c = let a = c.args in get-state-is a.s a.m a.latest a.frame.now a.log.now a.results.now a.totals.now a.acks.now a.stored.now a.out.now a.reps.now _ _ _ c.in-GetState.is c.on_get_state.ensures

pub returns-in-NewState : goal.returns-in-NewState
returns-in-NewState c = let a = c.args in new-state-is a.s a.m a.latest a.frame.now a.log.now a.results.now a.totals.now a.acks.now a.stored.now a.out.now a.reps.now _ _ _ _ c.in-NewState.is c.carried_bytes-part.ensures c.on_new_state.ensures

pub returns-in-StartViewChange : goal.returns-in-StartViewChange
returns-in-StartViewChange c = let a = c.args in start-view-change-is a.s a.m a.latest a.frame.now a.log.now a.results.now a.totals.now a.acks.now a.stored.now a.out.now a.reps.now _ _ c.in-StartViewChange.is c.on_start_view_change.ensures

pub returns-in-DoViewChange : goal.returns-in-DoViewChange
returns-in-DoViewChange c = let a = c.args in do-view-change-is a.s a.m a.latest a.frame.now a.log.now a.results.now a.totals.now a.acks.now a.stored.now a.out.now a.reps.now _ _ _ _ _ c.in-DoViewChange.is c.carried_bytes-part-in-DoViewChange.ensures c.on_do_view_change.ensures

pub returns-in-StartView : goal.returns-in-StartView
returns-in-StartView c = let a = c.args in start-view-is a.s a.m a.latest a.frame.now a.log.now a.results.now a.totals.now a.acks.now a.stored.now a.out.now a.reps.now _ _ _ c.in-StartView.is c.carried_bytes-part-in-StartView.ensures c.on_start_view.ensures

pub returns-in-Recovery : goal.returns-in-Recovery
returns-in-Recovery c = let a = c.args in recovery-is a.s a.m a.latest a.frame.now a.log.now a.results.now a.totals.now a.acks.now a.stored.now a.out.now a.reps.now _ _ _ c.in-Recovery.is c.on_recovery.ensures

pub returns-in-RecoveryResponse : goal.returns-in-RecoveryResponse
returns-in-RecoveryResponse c = let a = c.args in response-is a.s a.m a.latest a.frame.now a.log.now a.results.now a.totals.now a.acks.now a.stored.now a.out.now a.reps.now _ _ _ _ c.in-RecoveryResponse.is c.carried_bytes-part-in-RecoveryResponse.ensures c.on_recovery_response.ensures
