-- Directed examples for the lines of document 01's "Steps that are easy to misread". Assumes nothing.
use Rattle.std.specs.Prelude.{ℕ, true, false, List, [], ◌∷◌, ◌++◌}
use Rattle.std.proofs.Math.Option.{none, some}
use Rattle.fees.specs.Fees.{gives}
use Rattle.clock.specs.Clock.{clock}
use Rattle.frames.specs.declared.Status.TheVariants.{Normal, ViewChange}
use Rattle.model.specs.State.{State}
use Rattle.model.specs.Examples.{setup, place, book, table_row, votes, state}
use Rattle.model.specs.Examples.Start.{new}
use Rattle.model.specs.Examples.Event.{idle, gets}
use Rattle.model.specs.Directed.{Directed, step, fee, A, B, C, request_frame_to, prepare_to, prepare_ok_to, commit_to, get_state_to, new_state_to, call_to, report_frame_to}
use Rattle.model.specs.Directed.{start_view_to, paid_reply, totals3, untouched, none_stored, acks2}

-- "Chosen log: greatest (last normal view, length); on a tie the highest replica id": 2's B, though 0's A came later.
unfoldable pub tie : Directed
tie =
    record {
      setup = setup 3 1 3 8;
      start = new;
      steps =
          step (gets (report_frame_to 1 1 2 0 0 (B ∷ []))) 0 (call_to 0 1 1 ++ call_to 2 1 1) []
          ∷ step (gets (report_frame_to 1 1 0 0 0 (A ∷ []))) 0 (start_view_to 0 1 0 (B ∷ []) ++ start_view_to 2 1 0 (B ∷ [])) []
          ∷ [];
      last =
          state (place Normal 1 1 false) (untouched (B ∷ []) (table_row 2 0 none ∷ [])) (votes (acks2 2 0) 0 false) (none_stored 3 0)
          (clock true 0 0 0);
    }

-- the same, in the other order
unfoldable pub tie_back : Directed
tie_back =
    record {
      setup = setup 3 1 3 8;
      start = new;
      steps =
          step (gets (report_frame_to 1 1 0 0 0 (A ∷ []))) 0 (call_to 0 1 1 ++ call_to 2 1 1) []
          ∷ step (gets (report_frame_to 1 1 2 0 0 (B ∷ []))) 0 (start_view_to 0 1 0 (B ∷ []) ++ start_view_to 2 1 0 (B ∷ [])) []
          ∷ [];
      last =
          state (place Normal 1 1 false) (untouched (B ∷ []) (table_row 2 0 none ∷ [])) (votes (acks2 2 0) 0 false) (none_stored 3 0)
          (clock true 0 0 0);
    }

-- The last normal view goes before the length: 0's A of view 1, not 2's longer log of view 0. Replica 1 of view 4.
unfoldable pub view_first : Directed
view_first =
    record {
      setup = setup 3 1 3 8;
      start = new;
      steps =
          step (gets (report_frame_to 1 4 0 1 0 (A ∷ []))) 0 (call_to 0 4 1 ++ call_to 2 4 1) []
          ∷ step (gets (report_frame_to 1 4 2 0 0 (B ∷ C ∷ []))) 0 (start_view_to 0 4 0 (A ∷ []) ++ start_view_to 2 4 0 (A ∷ [])) []
          ∷ [];
      last =
          state (place Normal 4 4 false) (untouched (A ∷ []) (table_row 1 0 none ∷ [])) (votes (acks2 2 0) 0 false) (none_stored 3 0)
          (clock true 0 0 0);
    }

-- "The commit number is the greatest among all, not the chosen one's": 2's log is longer, 0's commit number is 1. Its reply goes out.
unfoldable pub greatest : Directed
greatest =
    record {
      setup = setup 3 1 3 8;
      start = new;
      steps =
          step (gets (report_frame_to 1 1 0 0 1 (A ∷ []))) 0 (call_to 0 1 1 ++ call_to 2 1 1) []
          ∷ step (gets (report_frame_to 1 1 2 0 0 (A ∷ B ∷ []))) 0 (start_view_to 0 1 1 (A ∷ B ∷ []) ++ start_view_to 2 1 1 (A ∷ B ∷ [])) (paid_reply 1 1 0 10)
          ∷ [];
      last =
          state (place Normal 1 1 false)
          (book (A ∷ B ∷ []) 1 (gives 1 10 ∷ []) (table_row 1 0 (some (gives 1 10)) ∷ table_row 2 0 none ∷ []) (totals3 10) 10 (A ∷ []))
          (votes (acks2 0 2) 0 false) (none_stored 3 0) (clock true 0 0 0);
    }

-- "NewState of our view sets heard_from_primary even in Normal": the second tick is a stable one.
unfoldable pub heard_in_normal : Directed
heard_in_normal =
    record {
      setup = setup 3 1 3 8;
      start = new;
      steps = step idle 0 [] [] ∷ step (gets (new_state_to 1 0 0 0 0 [])) 0 [] [] ∷ step idle 0 [] [] ∷ step idle 0 [] [] ∷ [];
      last =
          state (place Normal 0 0 false) (untouched [] []) (votes (acks2 0 0) 0 false) (none_stored 3 0) (clock false 1 0 0);
    }

-- In StateTransfer "only the excess is appended", and the overlap isn't looked at: C in A's place goes unseen. A NewState that ends inside the
-- log is ignored.
unfoldable pub excess : Directed
excess =
    record {
      setup = setup 3 1 3 8;
      start = new;
      steps =
          step (gets (prepare_to 1 0 1 0 A)) 0 (prepare_ok_to 0 0 1 1) []
          ∷ step (gets (prepare_to 1 0 3 0 C)) 0 (get_state_to 0 1 0 1) []
          ∷ step (gets (new_state_to 1 0 0 1 1 (C ∷ []))) 0 [] []
          ∷ step (gets (new_state_to 1 0 2 3 1 (C ∷ []))) 0 [] []
          ∷ step (gets (new_state_to 1 0 0 2 1 (C ∷ B ∷ []))) 0 (prepare_ok_to 0 0 2 1) []
          ∷ [];
      last =
          state (place Normal 0 0 false)
          (book (A ∷ B ∷ []) 1 (gives 1 10 ∷ []) (table_row 1 0 (some (gives 1 10)) ∷ table_row 2 0 none ∷ []) (totals3 10) 10 (A ∷ []))
          (votes (acks2 0 0) 0 false) (none_stored 3 0) (clock true 0 0 0);
    }

-- "Catching up, it must start exactly at our commit number": what is not committed is replaced.
unfoldable pub catches_up : Directed
catches_up =
    record {
      setup = setup 3 1 3 8;
      start = new;
      steps =
          step (gets (prepare_to 1 0 1 0 A)) 0 (prepare_ok_to 0 0 1 1) []
          ∷ step (gets (commit_to 1 2 0)) 0 (get_state_to 2 1 2 0) []
          ∷ step (gets (new_state_to 1 2 1 2 0 (C ∷ []))) 0 [] []
          ∷ step (gets (new_state_to 1 2 0 1 1 (B ∷ []))) 0 (prepare_ok_to 2 2 1 1) []
          ∷ [];
      last =
          state (place Normal 2 2 false)
          (book (B ∷ []) 1 (gives 1 20 ∷ []) (table_row 2 0 (some (gives 1 20)) ∷ []) (totals3 20) 20 (B ∷ []))
          (votes (acks2 0 0) 0 false) (none_stored 3 0) (clock true 0 0 0);
    }

-- "A re-sent Prepare isn't compared with our entry; commits go to the smaller of its commit and our op number."
unfoldable pub resent_again : Directed
resent_again =
    record {
      setup = setup 3 1 3 8;
      start = new;
      steps = step (gets (prepare_to 1 0 1 0 A)) 0 (prepare_ok_to 0 0 1 1) [] ∷ step (gets (prepare_to 1 0 1 7 B)) 0 (prepare_ok_to 0 0 1 1) [] ∷ [];
      last =
          state (place Normal 0 0 false)
          (book (A ∷ []) 1 (gives 1 10 ∷ []) (table_row 1 0 (some (gives 1 10)) ∷ []) (totals3 10) 10 (A ∷ []))
          (votes (acks2 0 0) 0 false) (none_stored 3 0) (clock true 0 0 0);
    }

-- An install leaves the reply to a committed entry, and it goes out with the current view; "a later entry of that client overwrites it".
unfoldable pub kept_reply : Directed
kept_reply =
    record {
      setup = setup 3 1 3 8;
      start = new;
      steps =
          step (gets (prepare_to 1 0 1 0 A)) 0 (prepare_ok_to 0 0 1 1) []
          ∷ step (gets (prepare_to 1 0 2 1 B)) 0 (prepare_ok_to 0 0 2 1) []
          ∷ step (gets (start_view_to 1 1 1 (A ∷ B ∷ []))) 0 (prepare_ok_to 1 1 2 1) []
          ∷ step (gets (request_frame_to 1 A)) 0 [] (paid_reply 1 1 0 10)
          ∷ step (gets (start_view_to 1 2 1 (A ∷ fee 1 1 5 ∷ []))) 0 (prepare_ok_to 2 2 2 1) []
          ∷ [];
      last =
          state (place Normal 2 2 false)
          (book (A ∷ fee 1 1 5 ∷ []) 1 (gives 1 10 ∷ []) (table_row 1 1 none ∷ []) (totals3 10) 10 (A ∷ []))
          (votes (acks2 0 0) 0 false) (none_stored 3 0) (clock true 0 0 0);
    }

-- "acks aren't cleared when a NewState is installed. This is where refusal 5 on PrepareOk comes from." It isn't stored: the next sender gets 5 too.
unfoldable pub old_acks : Directed
old_acks =
    record {
      setup = setup 3 0 3 8;
      start = new;
      steps =
          step (gets (request_frame_to 0 A)) 0 (prepare_to 1 0 1 0 A ++ prepare_to 2 0 1 0 A) []
          ∷ step (gets (commit_to 0 3 0)) 0 (get_state_to 0 0 3 0) []
          ∷ step (gets (new_state_to 0 3 0 0 0 [])) 0 (prepare_ok_to 0 3 0 0) []
          ∷ step (gets (prepare_ok_to 0 3 1 1)) 5 [] []
          ∷ step (gets (prepare_ok_to 0 3 1 2)) 5 [] []
          ∷ [];
      last =
          state (place Normal 3 3 false) (untouched [] []) (votes (acks2 1 0) 0 false) (none_stored 3 0) (clock true 0 0 0);
    }

-- "An ack fires only when the count reaches the quorum exactly", and commits all up to its op, each with its reply; the same sender counts once.
unfoldable pub exactly : Directed
exactly =
    record {
      setup = setup 3 0 3 8;
      start = new;
      steps =
          step (gets (request_frame_to 0 A)) 0 (prepare_to 1 0 1 0 A ++ prepare_to 2 0 1 0 A) []
          ∷ step (gets (request_frame_to 0 B)) 0 (prepare_to 1 0 2 0 B ++ prepare_to 2 0 2 0 B) []
          ∷ step (gets (prepare_ok_to 0 0 2 0)) 0 [] []
          ∷ step (gets (prepare_ok_to 0 0 2 2)) 0 [] (paid_reply 0 1 0 10 ++ paid_reply 0 2 0 30)
          ∷ step (gets (prepare_ok_to 0 0 1 2)) 0 [] []
          ∷ [];
      last =
          state (place Normal 0 0 false)
          (book (A ∷ B ∷ []) 2 (gives 1 10 ∷ gives 1 30 ∷ []) (table_row 1 0 (some (gives 1 10)) ∷ table_row 2 0 (some (gives 1 30)) ∷ []) (totals3 30) 30 (A ∷ B ∷ []))
          (votes (acks2 0 0) 0 false) (none_stored 3 0) (clock true 0 0 0);
    }

-- "A StateTransfer tick sends GetState first and may then start a view change in the same tick." T=1.
unfoldable pub transfer_ticks : Directed
transfer_ticks =
    record {
      setup = setup 3 1 1 8;
      start = new;
      steps =
          step (gets (prepare_to 1 0 2 0 A)) 0 (get_state_to 0 1 0 0) []
          ∷ step idle 0 (get_state_to 0 1 0 0) []
          ∷ step idle 0 (get_state_to 0 1 0 0 ++ call_to 0 1 1 ++ call_to 2 1 1) []
          ∷ [];
      last =
          state (place ViewChange 1 0 false) (untouched [] []) (votes (acks2 0 0) 0 false) (none_stored 3 0) (clock false 0 0 0);
    }

-- The doubled wait holds in Normal too. T=2: views 1 and 2 begin after 2 ticks of waiting each, and in Normal of view 3 the wait lasts 4.
unfoldable pub doubled : Directed
doubled =
    record {
      setup = setup 3 1 2 8;
      start = new;
      steps =
          step idle 0 [] [] ∷ step idle 0 [] []
          ∷ step idle 0 (call_to 0 1 1 ++ call_to 2 1 1) [] ∷ step idle 0 (call_to 0 1 1 ++ call_to 2 1 1) []
          ∷ step idle 0 (call_to 0 2 1 ++ call_to 2 2 1) []
          ∷ step (gets (start_view_to 1 3 0 [])) 0 (prepare_ok_to 0 3 0 1) []
          ∷ step idle 0 [] [] ∷ step idle 0 [] [] ∷ step idle 0 [] [] ∷ step idle 0 [] []
          ∷ step idle 0 (call_to 0 4 1 ++ call_to 2 4 1) []
          ∷ [];
      last =
          state (place ViewChange 4 3 false) (untouched [] []) (votes (acks2 0 0) 0 false) (none_stored 3 0) (clock false 0 0 1);
    }

-- "DoViewChange goes out once StartViewChange is held from n/2 distinct replica ids", but our own id as sender never joins them. Replica 2 of 5,
-- view 1: one from 2 starts the view change, and it takes 0 and 3. A third, 4, asks in vain.
unfoldable pub half_asks : Directed
half_asks =
    record {
      setup = setup 5 2 3 8;
      start = new;
      steps =
          step (gets (call_to 2 1 2)) 0 (call_to 0 1 2 ++ call_to 1 1 2 ++ call_to 3 1 2 ++ call_to 4 1 2) []
          ∷ step (gets (call_to 2 1 2)) 0 [] []
          ∷ step (gets (call_to 2 1 0)) 0 [] []
          ∷ step (gets (call_to 2 1 3)) 0 (report_frame_to 1 1 2 0 0 []) []
          ∷ step (gets (call_to 2 1 4)) 0 [] []
          ∷ [];
      last =
          state (place ViewChange 1 0 false) (untouched [] []) (votes (acks2 0 0) 25 true) (none_stored 5 0) (clock true 0 0 0);
    }

-- a primary of 5 whose op 1 isn't committed, with this set of acks
unfoldable pub four_acked : ℕ → State
four_acked acks =
    state (place Normal 0 0 false) (untouched (A ∷ []) (table_row 1 0 none ∷ [])) (votes (acks2 acks 0) 0 false) (none_stored 5 0)
    (clock true 0 0 0)

-- all of them
unfoldable pub misread : List Directed
misread =
    tie ∷ tie_back ∷ view_first ∷ greatest ∷ heard_in_normal ∷ excess ∷ catches_up ∷ resent_again ∷ kept_reply ∷ old_acks ∷ exactly
    ∷ transfer_ticks ∷ doubled ∷ half_asks ∷ []
