-- What several handlers share, on the state by value and the bytes of the lent runs: accept_from_primary, commit_up_to, send_get_state,
-- catch_up_with_view, state_transfer, send_prepare_ok. Refusal 9 leaves state, runs and area as they were. Assumes nothing.
use Rattle.std.specs.Prelude.{◌≡◌, Bool, true, false, not, List, [], ℕ, ◌-◌, max, ◌≤◌, ltb, length}
use Rattle.numbers.specs.Words.{when◌then◌else◌}
use Rattle.numbers.specs.Numbers.{over}
use Rattle.numbers.specs.declared.View.{View}
use Rattle.numbers.specs.declared.Op.{Op}
use Rattle.config.specs.Setup.{setup_ok, primary_of}
use Rattle.frames.specs.declared.Message.TheVariants.{PrepareOk, GetState}
use Rattle.frames.specs.declared.Status.TheVariants.{StateTransfer}
use Rattle.writers.specs.Writers.{encode}
use Rattle.book.specs.Runs.{money_committed, takings_committed}
use Rattle.book.specs.Memory.{Runs}
use Rattle.state.specs.State.{leads, heard_by, with_status, with_commit, catching_up_in}
use Rattle.state.specs.Statuses.{is_normal, is_changing}
use Rattle.state.specs.Answers.{refusal, completed, quiet}
use Rattle.state.specs.Lengths.{log_length, results_length, totals_length}
use Rattle.state.specs.declared.Returned.{Returned}
use Rattle.state.specs.declared.Replica.{Replica}
use Rattle.steps.specs.declared.Accept.{Accept}
use Rattle.steps.specs.declared.Accept.TheVariants.{Ignore, Hear, Join, Rejoin, Take}
use Rattle.frames.specs.declared.Refusal.TheVariants.{NoRoomForMessages}

-- what refusal 1 leaves: the setup is inside the sizes, commit ≤ op number ≤ L, and each run has its length
pub record Sound (s : Replica) (x : Runs) : Type 0 where
  pub sized : setup_ok s.setup ≡ true
  pub commit-le : s.commit.0 ≤ s.op.0
  pub op_le : s.op.0 ≤ s.setup.room
  pub log-long : length x.log ≡ log_length s.setup
  pub results-long : length x.money.results ≡ results_length s.setup
  pub totals-long : length x.money.totals ≡ totals_length s.setup

-- what a call leaves that only sends: its answer, and the area for messages
pub record Spoke : Type 0 where
  pub answer : Returned
  pub out : List ℕ

abbrev pub spoke : Returned → List ℕ → Spoke
spoke a out = record { answer = a; out = out }

-- what a call leaves that also changes log, results and totals
pub record Left : Type 0 where
  pub answer : Returned
  pub runs : Runs
  pub out : List ℕ

abbrev pub left : Returned → Runs → List ℕ → Left
left a x out = record { answer = a; runs = x; out = out }

-- a call that only sends, beside the runs that it leaves alone
abbrev pub alone : Runs → Spoke → Left
alone x d = left d.answer x d.out

-- accept_from_primary in ViewChange, of our view
unfoldable pub accept_changing : Replica → Accept
accept_changing s = when s.catching then Hear else Rejoin

-- accept_from_primary: what is taken is taken by a backup in Normal, in the message's view
unfoldable pub accept_of : Replica → View → Accept
accept_of s v =
    when ltb v.0 s.view.0 then Ignore else
    when ltb s.view.0 v.0 then Join else
    when is_changing s.status then accept_changing s else
    when not (is_normal s.status) then Hear else
    when leads s then Hear else
    Take

unfoldable pub is_take : Accept → Bool
is_take Ignore = false
is_take Hear = false
is_take Join = false
is_take Rejoin = false
is_take Take = true

-- the later of two op numbers
abbrev pub later_op : Op → Op → Op
later_op a b = record { 0 = max a.0 b.0 }

-- commit_up_to k, its state: the commit number never falls, and the takings follow what the fee rules give
abbrev pub committed_to : Replica → Op → Runs → Replica
committed_to s k x =
    with_commit s (later_op s.commit k)
    (takings_committed s.setup.members x.log s.commit.0 (k.0 - s.commit.0) x.money s.takings)

-- and its runs: the entries after the commit number go through the fee rules, in order
unfoldable pub settled : Replica → Op → Runs → Runs
settled s k x =
    record { log = x.log; money = money_committed s.setup.members x.log s.commit.0 (k.0 - s.commit.0) x.money }

-- send_get_state from op `at` on, to the primary of the view of t, the state after it; s is the state as it was
unfoldable pub asked_for_state : (s t : Replica) (at : Op) → List ℕ → Spoke
asked_for_state s t at out =
    when ltb (length out) 16 then spoke (refusal NoRoomForMessages s) out else
    spoke (completed t 16 0 false) (over (encode (primary_of t.setup.n t.view) (GetState t.setup.id t.view at) []) out)

-- state_transfer, by one who has heard
unfoldable pub transferred : Replica → List ℕ → Spoke
transferred s out = asked_for_state s (with_status (heard_by s) StateTransfer) s.op out

-- a message from the primary that isn't taken: catch_up_with_view asks from the commit number on
unfoldable pub deferred : Accept → Replica → View → List ℕ → Spoke
deferred Ignore s v out = spoke (quiet s) out
deferred Hear s v out = spoke (quiet (heard_by s)) out
deferred Join s v out = asked_for_state s (catching_up_in s v) s.commit out
deferred Rejoin s v out = asked_for_state s (catching_up_in (heard_by s) v) s.commit out
deferred Take s v out = spoke (quiet s) out

-- send_prepare_ok, with our own op number
unfoldable pub prepare_ok_of : Replica → List ℕ
prepare_ok_of s = encode (primary_of s.setup.n s.view) (PrepareOk s.view s.op s.setup.id) []

-- the state t commits up to k and acknowledges its op number; s is the state as it was
unfoldable pub committed_and_acked : (s t : Replica) (k : Op) (installed : Bool) → Runs → List ℕ → Left
committed_and_acked s t k installed x out =
    when ltb (length out) 16 then left (refusal NoRoomForMessages s) x out else
    left (completed (committed_to t k x) 16 0 installed) (settled t k x) (over (prepare_ok_of (committed_to t k x)) out)
