-- What stands behind a DoViewChange of the calls over row structs, from those over the byte table.
--     rows-own-out                          our own id isn't in the set of state and rows that calls produced
--     rows-backed, rows-backed-recovered    from a creation, and from a recovery, that wasn't refused
-- Assumes nothing.
use Rattle.std.specs.Prelude.{◌≡◌, ℕ, List, []}
use mathlib.Core.Path.{subst}
use Rattle.numbers.specs.declared.View.{View}
use Rattle.entries.specs.declared.Entry.{Entry}
use Rattle.config.specs.declared.Setup.{Setup}
use Rattle.state.specs.declared.Replica.{Replica}
use Rattle.safety.specs.Demand.{Call}
use Rattle.replica.specs.Demands.{Link, Chain}
use Rattle.replica.specs.Backed.{call_by, calls_in, WroteBacked, OwnOut}
use Rattle.replica.proofs.BackedLaws.{own_out, backed, backed-recovered}
use Rattle.replica_structs.specs.Calls.{LentRows, CalledRows}
use Rattle.replica_structs.specs.Promise.{in_bytes, called_bytes, KeptRows, CreateRowsPromise, RecoverRowsPromise}
use Rattle.replica_structs.specs.Demands.{RowsHandedBack, RowsLink, RowsChain}
use Rattle.replica_structs.specs.Backed.{rows_call_by, rows_calls_in}
use Rattle.replica_structs.proofs.CarryLaws.{create-carried, recover-carried}
use Rattle.replica_structs.proofs.DemandLaws.{handed, handed-rows, linked, chained}
use Rattle.state.specs.Answers.{code_of}

pub rows-own-out : (s : Replica) (x : LentRows) (applied : List Entry) → KeptRows s x applied → OwnOut s
rows-own-out s x applied k = own_out s (in_bytes x) applied k.kept

-- a call after a chain, where it holds of the same over the byte table
carried : (u : Setup) (s : Replica) (x : LentRows) → KeptRows s x []
    → ((s' : Replica) (z : LentRows) (e : CalledRows) (c : Chain s' (in_bytes z) s (in_bytes x)) (l : Link s' (in_bytes z) (called_bytes e))
    → WroteBacked u (calls_in s' (in_bytes z) s (in_bytes x) c) s' (in_bytes z) (call_by s' (in_bytes z) (called_bytes e) l) (called_bytes e))
    → (s' : Replica) (z : LentRows) (e : CalledRows) (c : RowsChain s' z s x) (l : RowsLink s' z e)
    → WroteBacked u (rows_calls_in s' z s x c) s' (in_bytes z) (rows_call_by s' z e l) (called_bytes e)
carried u s x k f s' z e c l =
    let r = chained s' z s x [] k c in
    let t = linked s' z r.applied' e r.kept l in
    let w = f s' z e r.chain t.link in
    let cs = calls_in s' (in_bytes z) s (in_bytes x) r.chain in
    let v = subst (λ (call : Call). WroteBacked u cs s' (in_bytes z) call (called_bytes e)) t.is w in
    subst (λ (ds : List Call). WroteBacked u ds s' (in_bytes z) (rows_call_by s' z e l) (called_bytes e)) r.is v

pub rows-backed : (u : Setup) (x : LentRows) (d : CalledRows) (y : LentRows) (s : Replica) (z : LentRows) (e : CalledRows) → CreateRowsPromise u x d
    → code_of d.answer ≡ 0 → RowsHandedBack d.lent y → (c : RowsChain s z d.answer.state y) (l : RowsLink s z e)
    → WroteBacked u (rows_calls_in s z d.answer.state y c) s (in_bytes z) (rows_call_by s z e l) (called_bytes e)
rows-backed u x d y s z e p k h =
    let w = create-carried u x d p in
    carried u d.answer.state y (handed-rows _ _ _ _ h (w.1 k))
    (λ s' z' e'. backed u (in_bytes x) (called_bytes d) (in_bytes y) s' (in_bytes z') (called_bytes e') w.0 k (handed d.lent y h)) s z e

pub rows-backed-recovered : (u : Setup) (v : View) (nonce : ℕ) (x : LentRows) (d : CalledRows) (y : LentRows) (s : Replica) (z : LentRows) (e : CalledRows)
    → RecoverRowsPromise u v nonce x d → code_of d.answer ≡ 0 → RowsHandedBack d.lent y → (c : RowsChain s z d.answer.state y) (l : RowsLink s z e)
    → WroteBacked u (rows_calls_in s z d.answer.state y c) s (in_bytes z) (rows_call_by s z e l) (called_bytes e)
rows-backed-recovered u v nonce x d y s z e p k h =
    let w = recover-carried u x d v nonce p in
    carried u d.answer.state y (handed-rows _ _ _ _ h (w.1 k))
    (λ s' z' e'. backed-recovered u v nonce (in_bytes x) (called_bytes d) (in_bytes y) s' (in_bytes z') (called_bytes e') w.0 k (handed d.lent y h)) s z e
