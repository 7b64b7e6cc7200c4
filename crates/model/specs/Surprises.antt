-- Directed examples for the unmarked examples of document 01, for its refusals, for surprises of the Rust, and for what document 02 changed. Assumes nothing.
use Rattle.std.specs.Prelude.{ℕ, true, false, List, [], ◌∷◌, ◌++◌}
use Rattle.std.proofs.Math.Option.{none, some}
use Rattle.fees.specs.Fees.{gives}
use Rattle.clock.specs.Clock.{clock}
use Rattle.frames.specs.declared.Status.TheVariants.{Normal, StateTransfer, ViewChange, Recovering}
use Rattle.entries.specs.declared.Entry.{Entry}
use Rattle.model.specs.Examples.{setup, place, book, table_row, votes, store, state}
use Rattle.model.specs.Examples.Start.{new, back}
use Rattle.model.specs.Examples.Event.{idle, gets}
use Rattle.model.specs.Directed.{Directed, step, fee, A, B, C, request_frame_to, prepare_to, prepare_ok_to, commit_to, get_state_to, new_state_to, call_to, report_frame_to}
use Rattle.model.specs.Directed.{start_view_to, recovery_to, bare_response_to, response_to, paid_reply, totals3, untouched, none_stored, acks2}

-- At a quorum the greatest c passes the chosen log: 7, and the DoViewChange isn't stored.
unfoldable pub past_chosen : Directed
past_chosen =
    record {
      setup = setup 3 1 3 8;
      start = new;
      steps =
          step (gets (report_frame_to 1 4 0 0 2 (A ∷ B ∷ []))) 0 (call_to 0 4 1 ++ call_to 2 4 1) []
          ∷ step (gets (report_frame_to 1 4 2 1 0 (A ∷ []))) 7 [] []
          ∷ step (gets (report_frame_to 1 4 2 0 0 [])) 0 (start_view_to 0 4 2 (A ∷ B ∷ []) ++ start_view_to 2 4 2 (A ∷ B ∷ [])) (paid_reply 4 1 0 10 ++ paid_reply 4 2 0 30)
          ∷ [];
      last =
          state (place Normal 4 4 false)
          (book (A ∷ B ∷ []) 2 (gives 1 10 ∷ gives 1 30 ∷ []) (table_row 1 0 (some (gives 1 10)) ∷ table_row 2 0 (some (gives 1 30)) ∷ []) (totals3 30) 30 (A ∷ B ∷ []))
          (votes (acks2 0 0) 0 false) (none_stored 3 0) (clock true 0 0 0);
    }

-- Of 5, below the quorum: the ack is kept. Then B is committed though two of its three acks were for A.
unfoldable pub acks_for_another : Directed
acks_for_another =
    record {
      setup = setup 5 0 3 8;
      start = new;
      steps =
          step (gets (request_frame_to 0 A)) 0 (prepare_to 1 0 1 0 A ++ prepare_to 2 0 1 0 A ++ prepare_to 3 0 1 0 A ++ prepare_to 4 0 1 0 A) []
          ∷ step (gets (commit_to 0 5 0)) 0 (get_state_to 0 0 5 0) []
          ∷ step (gets (new_state_to 0 5 0 0 0 [])) 0 (prepare_ok_to 0 5 0 0) []
          ∷ step (gets (prepare_ok_to 0 5 1 1)) 0 [] []
          ∷ step (gets (request_frame_to 0 B)) 0 (prepare_to 1 5 1 0 B ++ prepare_to 2 5 1 0 B ++ prepare_to 3 5 1 0 B ++ prepare_to 4 5 1 0 B) []
          ∷ step (gets (commit_to 0 10 0)) 0 (get_state_to 0 0 10 0) []
          ∷ step (gets (new_state_to 0 10 0 1 0 (C ∷ []))) 0 (prepare_ok_to 0 10 1 0) []
          ∷ step (gets (prepare_ok_to 0 10 1 3)) 0 [] []
          ∷ step (gets (prepare_ok_to 0 10 1 4)) 0 [] (paid_reply 10 3 0 30)
          ∷ [];
      last =
          state (place Normal 10 10 false)
          (book (C ∷ []) 1 (gives 1 30 ∷ []) (table_row 3 0 (some (gives 1 30)) ∷ []) (totals3 30) 30 (C ∷ []))
          (votes (acks2 0 0) 0 false) (none_stored 5 0) (clock true 0 0 0);
    }

-- A view begins with the quorum's logs, the primary's own is no candidate unless stored.
unfoldable pub not_own : Directed
not_own =
    record {
      setup = setup 3 0 3 8;
      start = new;
      steps =
          step (gets (request_frame_to 0 A)) 0 (prepare_to 1 0 1 0 A ++ prepare_to 2 0 1 0 A) []
          ∷ step (gets (report_frame_to 0 3 1 0 0 [])) 0 (call_to 1 3 0 ++ call_to 2 3 0) []
          ∷ step (gets (report_frame_to 0 3 2 0 0 [])) 0 (start_view_to 1 3 0 [] ++ start_view_to 2 3 0 []) []
          ∷ [];
      last =
          state (place Normal 3 3 false) (untouched [] []) (votes (acks2 0 0) 0 false) (none_stored 3 0) (clock true 0 0 0);
    }

-- Recovery: a quorum of responses, one of them from the primary of the latest view among them. Another nonce is ignored, a Prepare isn't looked at.
unfoldable pub recovers : Directed
recovers =
    record {
      setup = setup 3 2 3 8;
      start = back 0 9 40;
      steps =
          step (gets (prepare_to 2 0 1 0 A)) 0 [] []
          ∷ step (gets (response_to 2 0 8 0 1 (A ∷ B ∷ []))) 0 [] []
          ∷ step (gets (bare_response_to 2 0 9 1)) 0 [] []
          ∷ step (gets (response_to 2 0 9 0 1 (A ∷ B ∷ []))) 0 [] []
          ∷ step (gets (commit_to 2 0 2)) 0 [] []
          ∷ [];
      last =
          state (place Normal 0 0 false)
          (book (A ∷ B ∷ []) 2 (gives 1 10 ∷ gives 1 30 ∷ []) (table_row 1 0 (some (gives 1 10)) ∷ table_row 2 0 (some (gives 1 30)) ∷ []) (totals3 30) 30 (A ∷ B ∷ []))
          (votes (acks2 0 0) 0 false) (none_stored 3 9) (clock true 0 0 0);
    }

-- An install would shorten, or alter, the committed entries: 7.
unfoldable pub shortens : Directed
shortens =
    record {
      setup = setup 3 1 3 8;
      start = new;
      steps =
          step (gets (prepare_to 1 0 1 0 A)) 0 (prepare_ok_to 0 0 1 1) []
          ∷ step (gets (commit_to 1 0 1)) 0 [] []
          ∷ step (gets (start_view_to 1 2 0 [])) 7 [] []
          ∷ step (gets (start_view_to 1 2 0 (fee 1 0 11 ∷ []))) 7 [] []
          ∷ [];
      last =
          state (place Normal 0 0 false)
          (book (A ∷ []) 1 (gives 1 10 ∷ []) (table_row 1 0 (some (gives 1 10)) ∷ []) (totals3 10) 10 (A ∷ []))
          (votes (acks2 0 0) 0 false) (none_stored 3 0) (clock true 0 0 0);
    }

-- A rising log of L entries in a StartView: installed; L+1: 4. L=2.
unfoldable pub room_for : Directed
room_for =
    record {
      setup = setup 3 1 3 2;
      start = new;
      steps =
          step (gets (start_view_to 1 1 0 (A ∷ B ∷ C ∷ []))) 4 [] []
          ∷ step (gets (start_view_to 1 1 0 (A ∷ B ∷ []))) 0 (prepare_ok_to 1 1 2 1) []
          ∷ [];
      last =
          state (place Normal 1 1 false) (untouched (A ∷ B ∷ []) (table_row 1 0 none ∷ table_row 2 0 none ∷ [])) (votes (0 ∷ 0 ∷ []) 0 false) (none_stored 3 0)
          (clock true 0 0 0);
    }

-- View 4,294,967,295 reached by message: accepted; a tick that would leave it: 8, and the idle count stays. T=1.
unfoldable pub last_view : Directed
last_view =
    record {
      setup = setup 3 1 1 8;
      start = new;
      steps =
          step (gets (start_view_to 1 4294967295 0 [])) 0 (prepare_ok_to 0 4294967295 0 1) []
          ∷ step idle 0 [] []
          ∷ step idle 8 [] []
          ∷ step idle 8 [] []
          ∷ [];
      last =
          state (place Normal 4294967295 4294967295 false) (untouched [] []) (votes (acks2 0 0) 0 false) (none_stored 3 0) (clock false 0 1 0);
    }

-- A primary that came by StartView has no acks: nothing commits.
unfoldable pub no_own_acks : Directed
no_own_acks =
    record {
      setup = setup 3 0 3 8;
      start = new;
      steps =
          step (gets (start_view_to 0 3 0 (A ∷ []))) 0 (prepare_ok_to 0 3 1 0) []
          ∷ step (gets (prepare_ok_to 0 3 1 0)) 0 [] []
          ∷ step (gets (prepare_ok_to 0 3 1 1)) 0 [] []
          ∷ step (gets (prepare_ok_to 0 3 1 2)) 0 [] []
          ∷ [];
      last =
          state (place Normal 3 3 false) (untouched (A ∷ []) (table_row 1 0 none ∷ [])) (votes (acks2 0 0) 0 false) (none_stored 3 0)
          (clock true 0 0 0);
    }

-- A later response of a sender replaces an earlier one, even with a lower view: Normal in view 4 after hearing of view 5; A isn't acknowledged.
unfoldable pub lower_view : Directed
lower_view =
    record {
      setup = setup 3 0 3 8;
      start = back 0 1 40;
      steps =
          step (gets (bare_response_to 0 5 1 2)) 0 [] []
          ∷ step (gets (bare_response_to 0 3 1 2)) 0 [] []
          ∷ step (gets (response_to 0 4 1 1 0 (A ∷ []))) 0 [] []
          ∷ [];
      last =
          state (place Normal 4 4 false) (untouched (A ∷ []) (table_row 1 0 none ∷ [])) (votes (acks2 0 0) 0 false) (none_stored 3 1)
          (clock true 0 0 0);
    }

-- The latest view among the responses decides: 1's state of view 4 isn't taken once 2 answered from view 5; 2 is that view's primary.
unfoldable pub latest : Directed
latest =
    record {
      setup = setup 3 0 3 8;
      start = back 0 1 40;
      steps =
          step (gets (response_to 0 4 1 1 0 (A ∷ []))) 0 [] []
          ∷ step (gets (bare_response_to 0 5 1 2)) 0 [] []
          ∷ step (gets (response_to 0 5 1 2 1 (B ∷ []))) 0 [] []
          ∷ [];
      last =
          state (place Normal 5 5 false)
          (book (B ∷ []) 1 (gives 1 20 ∷ []) (table_row 2 0 (some (gives 1 20)) ∷ []) (totals3 20) 20 (B ∷ []))
          (votes (acks2 0 0) 0 false) (none_stored 3 1) (clock true 0 0 0);
    }

-- A Recovery of a later view starts the view change, answers nothing and doesn't count its sender; one of our view is answered, to ourselves too.
unfoldable pub later_recovery : Directed
later_recovery =
    record {
      setup = setup 3 1 3 8;
      start = new;
      steps =
          step (gets (recovery_to 1 1 7 0)) 0 (bare_response_to 1 0 7 1) []
          ∷ step (gets (recovery_to 1 2 7 1)) 0 (call_to 0 1 1 ++ call_to 2 1 1) []
          ∷ step (gets (recovery_to 1 2 7 1)) 0 [] []
          ∷ [];
      last =
          state (place ViewChange 1 0 false) (untouched [] []) (votes (acks2 0 0) 0 false) (none_stored 3 0) (clock true 0 0 0);
    }

-- A primary-to-be that sent its DoViewChange stores its own again on each tick.
unfoldable pub own_again : Directed
own_again =
    record {
      setup = setup 3 1 3 8;
      start = new;
      steps =
          step (gets (call_to 1 1 2)) 0 (call_to 0 1 1 ++ call_to 2 1 1) []
          ∷ step idle 0 (call_to 0 1 1 ++ call_to 2 1 1) []
          ∷ [];
      last =
          state (place ViewChange 1 0 false) (untouched [] []) (votes (acks2 0 0) 4 true)
          (store (none ∷ some (record { last_normal = 0; held = record { commit = 0; log = [] } }) ∷ none ∷ []) (none ∷ none ∷ none ∷ []) 0)
          (clock true 1 0 0);
    }

-- 8 in StateTransfer: the tick's GetState isn't sent either. T=1, L=1.
unfoldable pub no_get_state : Directed
no_get_state =
    record {
      setup = setup 3 1 1 1;
      start = new;
      steps =
          step (gets (start_view_to 1 4294967295 0 (A ∷ []))) 0 (prepare_ok_to 0 4294967295 1 1) []
          ∷ step idle 0 [] []
          ∷ step (gets (commit_to 1 4294967295 4294967295)) 0 (get_state_to 0 1 4294967295 1) []
          ∷ step idle 0 (get_state_to 0 1 4294967295 1) []
          ∷ step idle 8 [] []
          ∷ [];
      last =
          state (place StateTransfer 4294967295 4294967295 false) (untouched (A ∷ []) (table_row 1 0 none ∷ [])) (votes (0 ∷ []) 0 false) (none_stored 3 0)
          (clock false 0 1 0);
    }

-- A refused Prepare leaves `heard` as it was: the second tick is a waiting one.
unfoldable pub unheard : Directed
unheard =
    record {
      setup = setup 3 1 3 8;
      start = new;
      steps =
          step (gets (prepare_to 1 0 1 0 A)) 0 (prepare_ok_to 0 0 1 1) []
          ∷ step idle 0 [] []
          ∷ step (gets (prepare_to 1 0 2 0 A)) 6 [] []
          ∷ step idle 0 [] []
          ∷ [];
      last =
          state (place Normal 0 0 false) (untouched (A ∷ []) (table_row 1 0 none ∷ [])) (votes (acks2 0 0) 0 false) (none_stored 3 0)
          (clock false 1 0 0);
    }

-- Catching up is status ViewChange: a view change that starts from it raises the attempts. T=1.
unfoldable pub from_catching_up : Directed
from_catching_up =
    record {
      setup = setup 3 1 1 8;
      start = new;
      steps = step (gets (commit_to 1 2 0)) 0 (get_state_to 2 1 2 0) [] ∷ step idle 0 (call_to 0 3 1 ++ call_to 2 3 1) [] ∷ [];
      last =
          state (place ViewChange 3 0 false) (untouched [] []) (votes (acks2 0 0) 0 false) (none_stored 3 0) (clock true 0 0 1);
    }

-- Refusals on the frame alone, in every status and in document 01's order: 2 also for entries past L; 3 before 4; a Recovering replica refuses too.
-- L=1; `bad` is an Ask with cents.
unfoldable pub bad : Entry
bad = record { client = 9; request = 0; operation = 3; member = 0; cents = 1 }

unfoldable pub on_the_frame : Directed
on_the_frame =
    record {
      setup = setup 3 1 3 1;
      start = back 0 1 40;
      steps =
          step (gets (start_view_to 1 1 0 (A ∷ bad ∷ []))) 2 [] []
          ∷ step (gets (start_view_to 0 1 0 (A ∷ B ∷ []))) 3 [] []
          ∷ step (gets (start_view_to 1 1 0 (A ∷ B ∷ []))) 4 [] []
          ∷ step (gets (start_view_to 1 1 2 (A ∷ []))) 5 [] []
          ∷ step (gets (prepare_ok_to 1 0 2 0)) 4 [] []
          ∷ step (gets (new_state_to 1 0 2 1 0 [])) 2 [] []
          ∷ step (gets (start_view_to 1 1 0 (A ∷ []))) 0 [] []
          ∷ [];
      last =
          state (place Recovering 0 0 false) (untouched [] []) (votes (0 ∷ []) 0 false) (none_stored 3 1) (clock true 0 0 0);
    }

-- a charge of a client, with number 0
unfoldable pub charge : (client operation member cents : ℕ) → Entry
charge c o m x = record { client = c; request = 0; operation = o; member = m; cents = x }

-- a fee that is taken, a refund of most of it that is paid, one above the total, an Ask, a member that isn't there
unfoldable pub five_sorts : List Entry
five_sorts = charge 1 1 3 10 ∷ charge 2 2 3 7 ∷ charge 3 2 3 100 ∷ charge 4 3 3 0 ∷ charge 5 1 8 50 ∷ []

-- Takings rise by a fee that is taken and fall by a refund that is paid; an install leaves them, and so does a refused call.
unfoldable pub at_a_glance : Directed
at_a_glance =
    record {
      setup = setup 3 1 3 8;
      start = new;
      steps =
          step (gets (start_view_to 1 3 5 five_sorts)) 0 (prepare_ok_to 0 3 5 1) []
          ∷ step (gets (start_view_to 1 6 5 (five_sorts ++ charge 6 1 3 70 ∷ []))) 0 (prepare_ok_to 0 6 6 1) []
          ∷ step (gets []) 2 [] []
          ∷ [];
      last =
          state (place Normal 6 6 false)
          (book (five_sorts ++ charge 6 1 3 70 ∷ []) 5 (gives 1 10 ∷ gives 2 3 ∷ gives 6 3 ∷ gives 3 3 ∷ gives 4 0 ∷ [])
          (table_row 1 0 (some (gives 1 10)) ∷ table_row 2 0 (some (gives 2 3)) ∷ table_row 3 0 (some (gives 6 3)) ∷ table_row 4 0 (some (gives 3 3))
          ∷ table_row 5 0 (some (gives 4 0)) ∷ table_row 6 0 none ∷ [])
          (totals3 3) 3 five_sorts)
          (votes (acks2 0 0) 0 false) (none_stored 3 0) (clock true 0 0 0);
    }

-- Request to 1: client 1, number 5, Fee, member 3, 100 cents
unfoldable pub request5 : List ℕ
request5 =
    0x00 ∷ 0x00 ∷ 0x00 ∷ 0x23 ∷ 0x01 ∷ 0x01 ∷ 0x01 ∷ 0x00 ∷ 0x00 ∷ 0x00 ∷ 0x00 ∷ 0x00 ∷ 0x00 ∷ 0x00 ∷ 0x01 ∷ 0x00 ∷ 0x00 ∷ 0x00 ∷ 0x00 ∷ 0x00 ∷ 0x00 ∷ 0x00 ∷ 0x05 ∷ 0x01
    ∷ 0x00 ∷ 0x00 ∷ 0x00 ∷ 0x00 ∷ 0x00 ∷ 0x00 ∷ 0x03 ∷ 0x00 ∷ 0x00 ∷ 0x00 ∷ 0x00 ∷ 0x00 ∷ 0x00 ∷ 0x00 ∷ 0x64 ∷ []

-- its reply, of view 1: outcome 1, total 100
unfoldable pub reply5 : List ℕ
reply5 =
    0x00 ∷ 0x00 ∷ 0x00 ∷ 0x20 ∷ 0x01 ∷ 0x0C ∷ 0x00 ∷ 0x00 ∷ 0x00 ∷ 0x00 ∷ 0x01 ∷ 0x00 ∷ 0x00 ∷ 0x00 ∷ 0x00 ∷ 0x00 ∷ 0x00 ∷ 0x00 ∷ 0x01 ∷ 0x00 ∷ 0x00 ∷ 0x00 ∷ 0x00 ∷ 0x00
    ∷ 0x00 ∷ 0x00 ∷ 0x05 ∷ 0x01 ∷ 0x00 ∷ 0x00 ∷ 0x00 ∷ 0x00 ∷ 0x00 ∷ 0x00 ∷ 0x00 ∷ 0x64 ∷ []

-- Document 02, order 6: a desk sent 5, then 6, and a view change drops 6. 5, asked again, is answered: with the total of the time when it was applied,
-- though a fee of another client followed it. 4 is an older number and stays unanswered; 6 is a new one.
unfoldable pub drops_six : Directed
drops_six =
    record {
      setup = setup 3 1 3 8;
      start = new;
      steps =
          step (gets (prepare_to 1 0 1 0 (fee 1 5 100))) 0 (prepare_ok_to 0 0 1 1) []
          ∷ step (gets (prepare_to 1 0 2 1 (fee 2 0 50))) 0 (prepare_ok_to 0 0 2 1) []
          ∷ step (gets (prepare_to 1 0 3 2 (fee 1 6 7))) 0 (prepare_ok_to 0 0 3 1) []
          ∷ step (gets (start_view_to 1 1 2 (fee 1 5 100 ∷ fee 2 0 50 ∷ []))) 0 (prepare_ok_to 1 1 2 1) []
          ∷ step (gets request5) 0 [] reply5
          ∷ step (gets (request_frame_to 1 (fee 1 4 1))) 0 [] []
          ∷ step (gets (request_frame_to 1 (fee 1 6 7))) 0 (prepare_to 0 1 3 2 (fee 1 6 7) ++ prepare_to 2 1 3 2 (fee 1 6 7)) []
          ∷ [];
      last =
          state (place Normal 1 1 false)
          (book (fee 1 5 100 ∷ fee 2 0 50 ∷ fee 1 6 7 ∷ []) 2 (gives 1 100 ∷ gives 1 150 ∷ [])
          (table_row 1 6 none ∷ table_row 2 0 (some (gives 1 150)) ∷ []) (totals3 150) 150 (fee 1 5 100 ∷ fee 2 0 50 ∷ []))
          (votes (0 ∷ 0 ∷ 2 ∷ 0 ∷ 0 ∷ 0 ∷ 0 ∷ 0 ∷ []) 0 false) (none_stored 3 0) (clock true 0 0 0);
    }

unfoldable pub surprises : List Directed
surprises =
    past_chosen ∷ acks_for_another ∷ not_own ∷ recovers ∷ shortens ∷ room_for ∷ last_view ∷ no_own_acks ∷ lower_view ∷ latest ∷ later_recovery ∷ own_again
    ∷ no_get_state ∷ unheard ∷ from_catching_up ∷ on_the_frame ∷ at_a_glance ∷ drops_six ∷ []
