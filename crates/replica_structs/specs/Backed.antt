-- What stands behind a DoViewChange of the calls over row structs: any chain of them is one of the calls over the byte table. Assumes nothing.
use Rattle.std.specs.Prelude.{List, [], ◌∷◌}
use Rattle.state.specs.declared.Replica.{Replica}
use Rattle.safety.specs.Demand.{Call}
use Rattle.replica.specs.Backed.{framed_in, ticked_in}
use Rattle.replica_structs.specs.Calls.{LentRows, CalledRows}
use Rattle.replica_structs.specs.Promise.{in_bytes}
use Rattle.replica_structs.specs.Demands.{RowsLink, RowsChain}
use Rattle.replica_structs.specs.Demands.RowsLink.{message, tick}
use Rattle.replica_structs.specs.Demands.RowsChain.{none, more}

-- which call a link is
abbrev pub rows_call_by : (s : Replica) (x : LentRows) (d : CalledRows) → RowsLink s x d → Call
rows_call_by s x d (message f b o p) = framed_in (in_bytes x) f
rows_call_by s x d (tick o p) = ticked_in (in_bytes x)

-- the calls of a chain, one after the other
abbrev pub rows_calls_in : (s' : Replica) (x' : LentRows) (s : Replica) (x : LentRows) → RowsChain s' x' s x → List Call
rows_calls_in s' x' s x none = []
rows_calls_in s' x' s x (more _ _ d y l h c) = rows_call_by s x d l ∷ rows_calls_in s' x' d.answer.state y c
