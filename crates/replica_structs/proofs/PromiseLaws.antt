-- From what the core and the table's functions leave to what the outside calls promise: the last step of each walk.
--     follow-needs                                          what the table's `follow` asks of its caller
--     message-rows, idle-rows                               a frame, and a tick
--     create-refused, create-rows, recover-refused, recover-rows    creation, where the core refused it and where it did it
-- Assumes nothing.
use Rattle.std.specs.Prelude.{Option, Result, ◌≡◌, ℕ, ◌*◌, ◌≤◌, List, length, replicate}
use mathlib.Core.Path.{refl, sym, ap, ◌∙◌, subst}
use borrow.Author.Tests.{eq-eqb, ne_eqb}
use Rattle.numbers.specs.declared.View.{View}
use Rattle.numbers.proofs.WordLaws.{if-true, if-false}
use Rattle.entries.specs.Entries.{entries}
use Rattle.config.specs.declared.Setup.{Setup}
use Rattle.fees.specs.Results.{outcomes}
use Rattle.frames.specs.declared.Refusal.{Refusal}
use Rattle.client_table.specs.Rows.{followed}
use Rattle.client_table.specs.declared.Latest.{Latest}
use Rattle.client_table.specs.declared.Change.{Change}
use Rattle.client_table_structs.specs.Shape.{unused_row, struct_row}
use Rattle.client_table_structs.specs.declared.Row.{Row}
use Rattle.state.specs.declared.Returned.{Returned}
use Rattle.state.specs.declared.Replica.{Replica}
use Rattle.book.specs.Memory.{Memory}
use Rattle.steps.specs.Recorded.{Recorded, recorded}
use Rattle.outside.specs.Calls.{checked_of}
use Rattle.replica_structs.specs.Core.{lengths_in, client_in, checked_core, idle_core, create_core, recover_core, change_after}
use Rattle.replica_structs.specs.Calls.{LentRows, CalledRows, called_rows, latest_in, rows_after, following_rows, checked_rows, message_rows, idle_rows, cleared_rows, create_rows, recover_rows}
use Rattle.replica_structs.specs.Promise.{MessageRowsPromise, IdleRowsPromise, CreateRowsPromise, RecoverRowsPromise}
use Rattle.replica_structs.proofs.CoreLaws.{ReadyBy}
use Rattle.replica_structs.proofs.SameLaws.{message-same, idle-same, create-same, create-ok, recover-same, recover-ok}
use Rattle.state.specs.Answers.{code_of}
use Rattle.frames.specs.declared.Message.{Message}

-- ---- from `exact` to the rest

message-promised : (s : Replica) (frame : List ℕ) (x : LentRows) (d : CalledRows) → d ≡ message_rows s frame x → MessageRowsPromise s frame x d
message-promised s frame x d e =
    subst (MessageRowsPromise s frame x) (sym e)
    record {
      exact = refl;
      same = λ applied b o k. (message-same s x applied o k frame b).same;
      keeps = λ applied b o k. (message-same s x applied o k frame b).rows;
    }

idle-promised : (s : Replica) (x : LentRows) (d : CalledRows) → d ≡ idle_rows s x → IdleRowsPromise s x d
idle-promised s x d e =
    subst (IdleRowsPromise s x) (sym e)
    record {
      exact = refl;
      same = λ applied o k. (idle-same s x applied o k).same;
      keeps = λ applied o k. (idle-same s x applied o k).rows;
    }

create-promised : (u : Setup) (x : LentRows) (d : CalledRows) → d ≡ create_rows u x → CreateRowsPromise u x d
create-promised u x d e = subst (CreateRowsPromise u x) (sym e) (record { exact = refl; same = create-same u x; keeps = create-ok u x })

recover-promised : (u : Setup) (v : View) (nonce : ℕ) (x : LentRows) (d : CalledRows) → d ≡ recover_rows u v nonce x
    → RecoverRowsPromise u v nonce x d
recover-promised u v nonce x d e =
    subst (RecoverRowsPromise u v nonce x) (sym e)
    (record { exact = refl; same = recover-same u x v nonce; keeps = recover-ok u x v nonce })

-- ---- a frame, and a tick: a and m are what the core left, k what `change_after` says of it

module _ (s : Replica) (x : LentRows) (a : Returned) (m : Memory) (d : Recorded) (core : recorded a m ≡ d)
    (ready : ReadyBy s d)
    (k : Change) (p : k ≡ change_after s a) where
  pub follow-needs : (32 * k.to.0 ≤ length m.runs.log) × ((9 * k.done.0 ≤ length m.runs.money.results) × (k.done.0 ≤ k.to.0))
  follow-needs =
      let r = subst (ReadyBy s) (sym core) ready in
      rw p (r.log-long, (r.results-long, r.done-le))

  module _ {table : List Row}
      (t : table ≡ followed struct_row k x.table (entries k.to.0 m.runs.log) (outcomes k.done.0 m.runs.money.results)) where
    abbrev left : CalledRows
    left = called_rows a (record { core = m; table = table })

    follows : left ≡ following_rows s x.table d
    unfolding following_rows rows_after
    follows =
        rw (t, p) (ap (λ (z : Recorded). following_rows s x.table z) core)

    -- c, l: what `checked` and the table's `latest` gave
    pub message-rows : (frame : List ℕ) (c : Result Message Refusal) → c ≡ checked_of s (lengths_in x.core (length x.table)) frame
        → (client : Option ℕ) → client ≡ client_in c → (l : Latest) → l ≡ latest_in x.table client → d ≡ checked_core c s l frame x.core
        → MessageRowsPromise s frame x (called_rows a (record { core = m; table = table }))
    unfolding message_rows checked_rows
    message-rows frame c e client g l h q =
        message-promised s frame x left
        (follows ∙ ap (λ (z : Recorded). following_rows s x.table z) (rw (q, h, g, e)))

    pub idle-rows : d ≡ idle_core s (length x.table) x.core
        → IdleRowsPromise s x (called_rows a (record { core = m; table = table }))
    unfolding idle_rows
    idle-rows q = idle-promised s x left (follows ∙ ap (λ (z : Recorded). following_rows s x.table z) q)

-- ---- creation: a and m are what the core left

module _ (x : LentRows) (a : Returned) (m : Memory) where
  uncleared : (code_of a ≡ 0 → ⊥) → called_rows a (record { core = m; table = x.table }) ≡ cleared_rows x.table (recorded a m)
  unfolding cleared_rows
  uncleared n =
      ap (λ (l : List Row). called_rows a (record { core = m; table = l })) (sym (if-false _ _ _ (ne_eqb (code_of a) 0 n)))

  cleared : code_of a ≡ 0 → {table : List Row} → table ≡ replicate (length x.table) unused_row
      → called_rows a (record { core = m; table = table }) ≡ cleared_rows x.table (recorded a m)
  unfolding cleared_rows
  cleared e t =
      ap (λ (l : List Row). called_rows a (record { core = m; table = l })) (t ∙ sym (if-true _ _ _ (eq-eqb (code_of a) 0 e)))

  module _ (u : Setup) (q : recorded a m ≡ create_core u (length x.table) x.core) where
    pub create-refused : (code_of a ≡ 0 → ⊥) → CreateRowsPromise u x (called_rows a (record { core = m; table = x.table }))
    unfolding create_rows
    create-refused n = create-promised u x _ (uncleared n ∙ ap (λ (d : Recorded). cleared_rows x.table d) q)

    pub create-rows : code_of a ≡ 0 → {table : List Row} → table ≡ replicate (length x.table) unused_row
        → CreateRowsPromise u x (called_rows a (record { core = m; table = table }))
    unfolding create_rows
    create-rows e t = create-promised u x _ (cleared e t ∙ ap (λ (d : Recorded). cleared_rows x.table d) q)

  module _ (u : Setup) (v : View) (nonce : ℕ) (q : recorded a m ≡ recover_core u v nonce (length x.table) x.core) where
    pub recover-refused : (code_of a ≡ 0 → ⊥) → RecoverRowsPromise u v nonce x (called_rows a (record { core = m; table = x.table }))
    unfolding recover_rows
    recover-refused n = recover-promised u v nonce x _ (uncleared n ∙ ap (λ (d : Recorded). cleared_rows x.table d) q)

    pub recover-rows : code_of a ≡ 0 → {table : List Row} → table ≡ replicate (length x.table) unused_row
        → RecoverRowsPromise u v nonce x (called_rows a (record { core = m; table = table }))
    unfolding recover_rows
    recover-rows e t = recover-promised u v nonce x _ (cleared e t ∙ ap (λ (d : Recorded). cleared_rows x.table d) q)
