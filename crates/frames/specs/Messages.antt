-- Document 01, "Frames": what a well-formed frame says, and what its numbers are for the refusals that follow. The carried log is no part
-- of the message: it stays in the frame, from `start` on. Assumes nothing.
use Rattle.std.specs.Prelude.{List, ℕ, eqb, drop, Option, Some, None, Result, Ok, Err}
use Rattle.numbers.specs.Words.{when◌then◌else◌}
use Rattle.numbers.specs.Numbers.{num, view_at, op_at}
use Rattle.numbers.specs.declared.Op.{Op}
use Rattle.entries.specs.Entries.{entry_of}
use Rattle.frames.specs.Kinds.{kind_number, kind_of, fields_end, response_mark, state_end, well_formed}
use Rattle.frames.specs.FrameRules.{offset_of}
use Rattle.frames.specs.declared.Kind.{Kind}
use Rattle.frames.specs.declared.Kind.TheVariants as kind
use Rattle.frames.specs.declared.Progress.{Progress}
use Rattle.frames.specs.declared.Message.{Message}
use Rattle.frames.specs.declared.Message.TheVariants.{Request, Prepare, PrepareOk, Commit, GetState, NewState, StartViewChange, DoViewChange, StartView, Recovery, RecoveryResponse}
use Rattle.frames.specs.declared.Carried.{Carried}
use Rattle.frames.specs.declared.Addressed.{Addressed}
use Rattle.frames.specs.declared.Refusal.{Refusal}
use Rattle.frames.specs.declared.Refusal.TheVariants.{Malformed}

-- how far a log has come
abbrev pub progress : (o c : Op) → Progress
progress o c = record { op = o; commit = c }

-- the end of a RecoveryResponse: 0, or 1 o c
unfoldable pub response_state : List ℕ → Option Progress
response_state s = when eqb (response_mark s) 1 then Some (progress (op_at 21 s) (op_at 25 s)) else None

-- the message of a frame of kind k
unfoldable pub message_of : ℕ → List ℕ → Message
message_of k s =
    when eqb k 1 then Request (entry_of (drop (fields_end 1) s)) else
    when eqb k 2 then Prepare (view_at 7 s) (op_at 11 s) (op_at 15 s) (entry_of (drop (fields_end 2) s)) else
    when eqb k 3 then PrepareOk (view_at 7 s) (op_at 11 s) (num 1 15 s) else
    when eqb k 4 then Commit (view_at 7 s) (op_at 11 s) else
    when eqb k 5 then GetState (num 1 7 s) (view_at 8 s) (op_at 12 s) else
    when eqb k 6 then NewState (view_at 7 s) (op_at 11 s) (op_at 15 s) (op_at 19 s) else
    when eqb k 7 then StartViewChange (view_at 7 s) (num 1 11 s) else
    when eqb k 8 then DoViewChange (view_at 7 s) (num 1 11 s) (view_at 12 s) (op_at 16 s) (op_at 20 s) else
    when eqb k 9 then StartView (view_at 7 s) (op_at 11 s) (op_at 15 s) else
    when eqb k 10 then Recovery (num 1 7 s) (num 8 8 s) (view_at 16 s) else
    RecoveryResponse (view_at 7 s) (num 8 11 s) (num 1 19 s) (response_state s)

abbrev pub addressed : (to : ℕ) → Message → Addressed
addressed to m = record { to = to; message = m }

-- addressee and message, or refusal 2 with the offset of the first wrong byte
unfoldable pub parse_frame : List ℕ → Result Addressed Refusal
parse_frame s = when well_formed s then Ok (addressed (num 1 6 s) (message_of (kind_of s) s)) else Err (Malformed (offset_of s))

abbrev pub no_op : Op
no_op = record { 0 = 0 }

-- a kind_row by the table of kinds
abbrev pub kind_row : (kind : Kind) (sender : ℕ) (op commit : Op) (whole : ℕ) → Carried
kind_row k r o c n = record { kind = k; sender = r; op = o; commit = c; start = fields_end (kind_number k); whole = n }

-- the kind_row of a RecoveryResponse, without and with a log
unfoldable pub state_row : ℕ → Option Progress → Carried
state_row r None = kind_row kind.RecoveryResponse r no_op no_op 0
state_row r (Some p) = record { kind = kind.RecoveryResponse; sender = r; op = p.op; commit = p.commit; start = state_end; whole = p.op.0 }

-- One kind_row a kind, for what is judged of a frame alone. Columns: the kind; the sender, 0 where the kind names none
-- (0 is below every n); the carried o, or end, that L bounds, 0 where there is none; the carried c that this bounds, of kinds 6, 8, 9 and
-- 11 only (a Prepare's and a Commit's c are bounded by nothing); how many entries a whole carried log has (a NewState carries a part of
-- one). From `start` on the frame has its entries, of every kind: a carried log, or the one entry of a Request or Prepare, or nothing.
unfoldable pub carried_of : Message → Carried
carried_of (Request e) = kind_row kind.Request 0 no_op no_op 0
carried_of (Prepare v o c e) = kind_row kind.Prepare 0 o no_op 0
carried_of (PrepareOk v o r) = kind_row kind.PrepareOk r o no_op 0
carried_of (Commit v c) = kind_row kind.Commit 0 no_op no_op 0
carried_of (GetState r v o) = kind_row kind.GetState r o no_op 0
carried_of (NewState v a z c) = kind_row kind.NewState 0 z c 0
carried_of (StartViewChange v r) = kind_row kind.StartViewChange r no_op no_op 0
carried_of (DoViewChange v r l o c) = kind_row kind.DoViewChange r o c o.0
carried_of (StartView v o c) = kind_row kind.StartView 0 o c o.0
carried_of (Recovery r x v) = kind_row kind.Recovery r no_op no_op 0
carried_of (RecoveryResponse v x r t) = state_row r t

-- the entries of a message's frame, as bytes: all that follows its fields
unfoldable pub carried_bytes : Message → List ℕ → List ℕ
carried_bytes m s = drop (carried_of m).start s
