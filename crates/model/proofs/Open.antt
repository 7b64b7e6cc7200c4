-- What a statement opens so that antt computes it: all definitions of a file, and of those that it rests on. Assumes nothing.
use Rattle.state.specs.Statuses.{is_normal, is_transfer, is_changing}
use Rattle.model.specs.State.{after, ignored, set_place, set_book, set_votes, set_store, set_clock, set_status, set_acks, op_of}
use Rattle.numbers.specs.Words.{when◌then◌else◌, ◌and◌, ◌or◌}
use Rattle.entries.specs.Entries.{operation_of, encode_entry, operation_ok, entry_of, entry_ok, entries_ok}
use Rattle.entries.specs.Rising.{breaks_at, follows, rising}
use Rattle.fees.specs.Takings.{takings_after}
use Rattle.fees.specs.Fees.{rule}
use Rattle.model.specs.Book.{outcome, totals_after, through, results_of, find, put, entry_row, append, append_all, keep, commit_one, commit_all, due_entries, commit_up_to, replies_of, commit_replies, rebuilt, table_of, install, same_entry, agree, empty_book}
use Rattle.numbers.specs.Numbers.{big, num, within}
use Rattle.numbers.specs.Cells.{packed, cells}
use Rattle.config.specs.Setup.{primary_of, setup_ok}
use Rattle.writers.specs.Writers.{header, encode, reply, state_size, size_of}
use Rattle.model.specs.Sending.{sent_bytes, reply_bytes, messages_out, replies_out, send, primary, is_primary, to_others_below, to_others, to_primary, send_prepare, send_prepares, send_prepare_ok, send_commit, send_get_state, send_new_state, send_start_view_change, do_view_change_to_primary, start_view_of, send_start_view, start_view_to_others, send_recovery_response, send_recovery}
use Rattle.config.specs.Replicas.{members, count_below, with_member, with_another}
use Rattle.clock.specs.Clock.{start_of, limit_of, waited_of, stable_tick, wait_tick, tick_of}
use Rattle.model.specs.ViewChange.{filled, better, chosen, greatest_commit, held_by, our_report, cleared_votes, mark_sent, voted_for, report_noted, no_reports, no_acks, own_vote, cleared_store, enter_normal, catching_up_with, catch_up_with_view, acks_from, started_with, start_view, start_chosen, record_do_view_change, send_do_view_change, enough, maybe_send_do_view_change, changing_to, start_view_change, on_start_view_change, on_do_view_change, joined, on_start_view}
use Rattle.model.specs.Normal.{heard_from_primary, committed, resend, ack_row, acked, blanked, filled_gap, committed_then, accepted, on_request, accept_from_primary, state_transfer, prepared, take_prepare, on_prepare, take_commit, on_commit, on_prepare_ok, on_get_state, fill_gap, caught_up, catch_up, on_new_state}
use Rattle.model.specs.Recovery.{latest_view, noted, no_responses, forgotten, on_recovery, recovered, recover_with, recover_from, recover_latest, on_recovery_response}
use Rattle.frames.specs.Kinds.{room_of, fields_ok, count_of, head_ok, body_ok, well_formed}
use Rattle.frames.specs.Messages.{response_state, message_of, parse_frame, state_row, carried_of, carried_bytes}
use Rattle.frames.specs.Refusals.{whole_log, refusal_of, verdict, check_parsed, check_frame}
use Rattle.frames.specs.Looks.{changing, looks_at}
use Rattle.model.specs.Steps.{fitted, carried_log, held_in, held_ok, reported_ok, held_ok_in, responses_ok, numbers_ok, on_message, on_checked, primary_tick, next_view, follow_tick, change_tick, on_idle, on_frame, on_tick, new_at, create, recover}
use Rattle.model.specs.Examples.{saw, saw_refused, answer_seen, answer, seen, starts, seen_from, setup, place, book, table_row, votes, store, state}
use Rattle.model.specs.ExampleFrames.{heartbeats, request70, request71, request80, prepares, prepare1, prepare2, prepare_ok1, prepare_ok2, prepare_ok3, the_reply, calls_for1, calls_for2, calls_for3, calls_for4}
use Rattle.model.specs.Marked.{e70, zeros8, paid8, bare3, on_its_own, asked_once, first_ack, paid, first, ticks_only, bad_frames, two, full, again, short, marked}
use Rattle.model.specs.Directed.{step, told, answers, ends, ran_from, fee, A, B, C, entries_bytes, request_frame_to, prepare_to, prepare_ok_to, commit_to, get_state_to, new_state_to, call_to, report_frame_to, start_view_to, recovery_to, bare_response_to, response_to, paid_reply, totals3, untouched, none_stored, acks2}
use Rattle.model.specs.Misread.{four_acked, tie, tie_back, view_first, greatest, heard_in_normal, excess, catches_up, resent_again, kept_reply, old_acks, exactly, transfer_ticks, doubled, half_asks, misread}
use Rattle.model.specs.Surprises.{bad, past_chosen, acks_for_another, not_own, recovers, shortens, room_for, last_view, no_own_acks, lower_view, latest, later_recovery, own_again, no_get_state, unheard, from_catching_up, on_the_frame, charge, five_sorts, at_a_glance, request5, reply5, drops_six, surprises}

unfoldable pub open-state : Unit {0}
unfolding is_normal is_transfer is_changing after ignored set_place set_book set_votes set_store set_clock set_status set_acks op_of
open-state = tt

unfoldable pub open-book : Unit {0}
unfolding when◌then◌else◌ ◌and◌ ◌or◌ operation_of breaks_at follows rising rule takings_after outcome totals_after through results_of find put entry_row append append_all keep commit_one commit_all due_entries commit_up_to replies_of commit_replies rebuilt table_of install same_entry agree empty_book
open-book = tt

unfoldable pub open-sending : Unit {0}
unfolding big packed encode_entry primary_of header encode reply sent_bytes reply_bytes messages_out replies_out send primary is_primary to_others_below to_others to_primary send_prepare send_prepares send_prepare_ok send_commit send_get_state send_new_state send_start_view_change do_view_change_to_primary start_view_of send_start_view start_view_to_others send_recovery_response send_recovery
open-sending = tt

unfoldable pub open-view-change : Unit {0}
unfolding members count_below with_member with_another start_of filled better chosen greatest_commit held_by our_report cleared_votes mark_sent voted_for report_noted no_reports no_acks own_vote cleared_store enter_normal catching_up_with catch_up_with_view acks_from started_with start_view start_chosen record_do_view_change send_do_view_change enough maybe_send_do_view_change changing_to start_view_change on_start_view_change on_do_view_change joined on_start_view
open-view-change = tt

unfoldable pub open-normal : Unit {0}
unfolding heard_from_primary committed resend ack_row acked blanked filled_gap committed_then accepted on_request accept_from_primary state_transfer prepared take_prepare on_prepare take_commit on_commit on_prepare_ok on_get_state fill_gap caught_up catch_up on_new_state
open-normal = tt

unfoldable pub open-recovery : Unit {0}
unfolding latest_view noted no_responses forgotten on_recovery recovered recover_with recover_from recover_latest on_recovery_response
open-recovery = tt

unfoldable pub open-frames : Unit {0}
unfolding num within cells operation_ok entry_of entry_ok entries_ok setup_ok limit_of waited_of stable_tick wait_tick tick_of room_of fields_ok count_of head_ok body_ok well_formed response_state message_of parse_frame state_row carried_of carried_bytes whole_log refusal_of verdict check_parsed check_frame changing looks_at state_size size_of
open-frames = tt

unfoldable pub open-steps : Unit {0}
unfolding open-state open-book open-sending open-view-change open-normal open-recovery open-frames fitted carried_log held_in held_ok reported_ok held_ok_in responses_ok numbers_ok on_message on_checked primary_tick next_view follow_tick change_tick on_idle on_frame on_tick new_at create recover
open-steps = tt

unfoldable pub open-examples : Unit {0}
unfolding open-steps saw saw_refused answer_seen answer seen starts seen_from setup place book table_row votes store state
open-examples = tt

unfoldable pub open-example-frames : Unit {0}
unfolding heartbeats request70 request71 request80 prepares prepare1 prepare2 prepare_ok1 prepare_ok2 prepare_ok3 the_reply calls_for1 calls_for2 calls_for3 calls_for4
open-example-frames = tt

unfoldable pub open-marked : Unit {0}
unfolding open-examples open-example-frames e70 zeros8 paid8 bare3 on_its_own asked_once first_ack paid first ticks_only bad_frames two full again short marked
open-marked = tt

unfoldable pub open-directed : Unit {0}
unfolding open-examples step told answers ends ran_from fee A B C entries_bytes request_frame_to prepare_to prepare_ok_to commit_to get_state_to new_state_to call_to report_frame_to start_view_to recovery_to bare_response_to response_to paid_reply totals3 untouched none_stored acks2
open-directed = tt

unfoldable pub open-misread : Unit {0}
unfolding open-directed four_acked tie tie_back view_first greatest heard_in_normal excess catches_up resent_again kept_reply old_acks exactly transfer_ticks doubled half_asks misread
open-misread = tt

unfoldable pub open-surprises : Unit {0}
unfolding open-directed bad past_chosen acks_for_another not_own recovers shortens room_for last_view no_own_acks lower_view latest later_recovery own_again no_get_state unheard from_catching_up on_the_frame charge five_sorts at_a_glance request5 reply5 drops_six surprises
open-surprises = tt
