-- The marked examples of document 01 with *, as one list. L=8 and M=8 unless said. Assumes nothing.
use Rattle.std.specs.Prelude.{ℕ, true, false, List, [], ◌∷◌}
use Rattle.std.proofs.Math.Option.{none, some}
use Rattle.entries.specs.declared.Entry.{Entry}
use Rattle.fees.specs.Fees.{gives}
use Rattle.clock.specs.Clock.{clock}
use Rattle.clock.specs.declared.Clock.{Clock}
use Rattle.frames.specs.declared.Status.{Status}
use Rattle.frames.specs.declared.Status.TheVariants.{Normal, ViewChange}
use Rattle.model.specs.State.{State, Store}
use Rattle.model.specs.Examples.{Example, saw, saw_refused, setup, place, book, table_row, votes, store, state}
use Rattle.model.specs.Examples.Start.{new}
use Rattle.model.specs.Examples.Event.{idle, idle_in, gets}
use Rattle.model.specs.ExampleFrames.{heartbeats, request70, request71, request80, prepares, prepare1, prepare2, prepare_ok1, prepare_ok2, prepare_ok3}
use Rattle.model.specs.ExampleFrames.{the_reply, calls_for1, calls_for2, calls_for3, calls_for4}

-- client 7, number 0, Fee, member 3, 4,500 cents
unfoldable pub e70 : Entry
e70 = record { client = 7; request = 0; operation = 1; member = 3; cents = 4500 }

unfoldable pub zeros8 : List ℕ
zeros8 = 0 ∷ 0 ∷ 0 ∷ 0 ∷ 0 ∷ 0 ∷ 0 ∷ 0 ∷ []

unfoldable pub paid8 : List ℕ
paid8 = 0 ∷ 0 ∷ 0 ∷ 4500 ∷ 0 ∷ 0 ∷ 0 ∷ 0 ∷ []

-- nothing stored, of 3 replicas
unfoldable pub bare3 : Store
bare3 = store (none ∷ none ∷ none ∷ []) (none ∷ none ∷ none ∷ []) 0

-- a replica of 3 with an empty log, in a view
unfoldable pub on_its_own : Status → ℕ → Clock → State
on_its_own s v c = state (place s v 0 false) (book [] 0 [] [] zeros8 0 []) (votes zeros8 0 false) bare3 c

-- a primary of view 0 that has e70: with these acks, not committed; and committed, with no acks
unfoldable pub asked_once : List ℕ → Clock → State
asked_once acks c =
    state (place Normal 0 0 false) (book (e70 ∷ []) 0 [] (table_row 7 0 none ∷ []) zeros8 0 []) (votes acks 0 false) bare3 c

-- its own ack of op 1
unfoldable pub first_ack : List ℕ
first_ack = 1 ∷ 0 ∷ 0 ∷ 0 ∷ 0 ∷ 0 ∷ 0 ∷ 0 ∷ []

unfoldable pub paid : List ℕ → Clock → State
paid acks c =
    state (place Normal 0 0 false)
    (book (e70 ∷ []) 1 (gives 1 4500 ∷ []) (table_row 7 0 (some (gives 1 4500)) ∷ []) paid8 4500 (e70 ∷ []))
    (votes acks 0 false) bare3 c

-- a fresh replica's clock, and the same after one tick of a primary
abbrev pub fresh : Clock
fresh = clock true 0 0 0

abbrev pub once : Clock
once = clock true 0 1 0

-- Fresh replica 0 of 3: a tick; a Request; PrepareOk from 1; the same from 2: nothing changes; the same Request: the reply again.
unfoldable pub first : Example
first =
    record {
      setup = setup 3 0 3 8;
      start = new;
      calls = idle ∷ gets request70 ∷ gets prepare_ok1 ∷ gets prepare_ok2 ∷ gets request70 ∷ [];
      want =
          saw 0 [] [] (on_its_own Normal 0 fresh)
          ∷ saw 0 heartbeats [] (on_its_own Normal 0 once)
          ∷ saw 0 prepares [] (asked_once first_ack once)
          ∷ saw 0 [] the_reply (paid zeros8 once)
          ∷ saw 0 [] [] (paid zeros8 once)
          ∷ saw 0 [] the_reply (paid zeros8 once)
          ∷ [];
    }

-- Fresh replica 1, T=3, ticks only: views 1, 2, 3, 4 begin at ticks 4, 7, 13, 25.
unfoldable pub ticks_only : Example
ticks_only =
    record {
      setup = setup 3 1 3 8;
      start = new;
      calls = idle ∷ idle ∷ idle ∷ idle ∷ idle ∷ idle ∷ idle ∷ idle ∷ idle ∷ idle ∷ idle ∷ idle ∷ idle ∷ idle ∷ idle ∷ idle ∷ idle ∷ idle ∷ idle ∷ idle ∷ idle ∷ idle ∷ idle ∷ idle ∷ idle ∷ [];
      want =
          saw 0 [] [] (on_its_own Normal 0 fresh)
          ∷ saw 0 [] [] (on_its_own Normal 0 (clock false 0 1 0))
          ∷ saw 0 [] [] (on_its_own Normal 0 (clock false 1 0 0))
          ∷ saw 0 [] [] (on_its_own Normal 0 (clock false 2 0 0))
          ∷ saw 0 calls_for1 [] (on_its_own ViewChange 1 (clock false 0 0 0))
          ∷ saw 0 calls_for1 [] (on_its_own ViewChange 1 (clock false 1 0 0))
          ∷ saw 0 calls_for1 [] (on_its_own ViewChange 1 (clock false 2 0 0))
          ∷ saw 0 calls_for2 [] (on_its_own ViewChange 2 (clock false 0 0 1))
          ∷ saw 0 calls_for2 [] (on_its_own ViewChange 2 (clock false 1 0 1))
          ∷ saw 0 calls_for2 [] (on_its_own ViewChange 2 (clock false 2 0 1))
          ∷ saw 0 calls_for2 [] (on_its_own ViewChange 2 (clock false 3 0 1))
          ∷ saw 0 calls_for2 [] (on_its_own ViewChange 2 (clock false 4 0 1))
          ∷ saw 0 calls_for2 [] (on_its_own ViewChange 2 (clock false 5 0 1))
          ∷ saw 0 calls_for3 [] (on_its_own ViewChange 3 (clock false 0 0 2))
          ∷ saw 0 calls_for3 [] (on_its_own ViewChange 3 (clock false 1 0 2))
          ∷ saw 0 calls_for3 [] (on_its_own ViewChange 3 (clock false 2 0 2))
          ∷ saw 0 calls_for3 [] (on_its_own ViewChange 3 (clock false 3 0 2))
          ∷ saw 0 calls_for3 [] (on_its_own ViewChange 3 (clock false 4 0 2))
          ∷ saw 0 calls_for3 [] (on_its_own ViewChange 3 (clock false 5 0 2))
          ∷ saw 0 calls_for3 [] (on_its_own ViewChange 3 (clock false 6 0 2))
          ∷ saw 0 calls_for3 [] (on_its_own ViewChange 3 (clock false 7 0 2))
          ∷ saw 0 calls_for3 [] (on_its_own ViewChange 3 (clock false 8 0 2))
          ∷ saw 0 calls_for3 [] (on_its_own ViewChange 3 (clock false 9 0 2))
          ∷ saw 0 calls_for3 [] (on_its_own ViewChange 3 (clock false 10 0 2))
          ∷ saw 0 calls_for3 [] (on_its_own ViewChange 3 (clock false 11 0 2))
          ∷ saw 0 calls_for4 [] (on_its_own ViewChange 4 (clock false 0 0 3))
          ∷ [];
    }

-- Empty frame: 2. Sender 3 with n=3: 3.
unfoldable pub bad_frames : Example
bad_frames =
    record {
      setup = setup 3 0 3 8;
      start = new;
      calls = gets [] ∷ gets prepare_ok3 ∷ [];
      want = saw 0 [] [] (on_its_own Normal 0 fresh) ∷ saw 2 [] [] (on_its_own Normal 0 fresh) ∷ saw 3 [] [] (on_its_own Normal 0 fresh) ∷ [];
    }

-- n=2: 1.
unfoldable pub two : Example
two = record { setup = setup 2 0 3 8; start = new; calls = []; want = saw_refused 1 ∷ [] }

-- L=1, log of one entry, new Request: 4; the old Request: nothing; committed, the old Request: its reply.
unfoldable pub full : Example
full =
    record {
      setup = setup 3 0 3 1;
      start = new;
      calls = gets request70 ∷ gets request71 ∷ gets request70 ∷ gets prepare_ok1 ∷ gets request71 ∷ gets request80 ∷ gets request70 ∷ [];
      want =
          saw 0 [] [] (state (place Normal 0 0 false) (book [] 0 [] [] zeros8 0 []) (votes (0 ∷ []) 0 false) bare3 fresh)
          ∷ saw 0 prepares [] (asked_once (1 ∷ []) fresh)
          ∷ saw 4 [] [] (asked_once (1 ∷ []) fresh)
          ∷ saw 0 [] [] (asked_once (1 ∷ []) fresh)
          ∷ saw 0 [] the_reply (paid (0 ∷ []) fresh)
          ∷ saw 4 [] [] (paid (0 ∷ []) fresh)
          ∷ saw 4 [] [] (paid (0 ∷ []) fresh)
          ∷ saw 0 [] the_reply (paid (0 ∷ []) fresh)
          ∷ [];
    }

-- Fresh backup, Prepare op 1, then Prepare op 2 with the same client and number: 6.
unfoldable pub again : Example
again =
    record {
      setup = setup 3 1 3 8;
      start = new;
      calls = gets prepare1 ∷ gets prepare2 ∷ [];
      want =
          saw 0 [] [] (on_its_own Normal 0 fresh) ∷ saw 0 prepare_ok1 [] (asked_once zeros8 fresh) ∷ saw 6 [] [] (asked_once zeros8 fresh) ∷ [];
    }

-- Area one byte short for the first example: 9; at exactly 30 bytes: done.
unfoldable pub short : Example
short =
    record {
      setup = setup 3 0 3 8;
      start = new;
      calls = idle_in 29 ∷ idle_in 30 ∷ [];
      want = saw 0 [] [] (on_its_own Normal 0 fresh) ∷ saw 9 [] [] (on_its_own Normal 0 fresh) ∷ saw 0 heartbeats [] (on_its_own Normal 0 once) ∷ [];
    }

unfoldable pub marked : List Example
marked = first ∷ ticks_only ∷ bad_frames ∷ two ∷ full ∷ again ∷ short ∷ []
