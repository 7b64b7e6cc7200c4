-- Equality of any two permitted answers of the outside calls over row structs, refused ones included: two answers, with every byte and every row as they leave
-- them, that both meet a call's contract are equal. Assumes nothing.
use Rattle.std.specs.Prelude.{◌≡◌, ℕ, List}
use mathlib.Core.Path.{sym, ◌∙◌}
use Rattle.numbers.specs.declared.View.{View}
use Rattle.config.specs.declared.Setup.{Setup}
use Rattle.state.specs.declared.Replica.{Replica}
use Rattle.replica_structs.specs.Calls.{LentRows, CalledRows}
use Rattle.replica_structs.specs.Promise.{MessageRowsPromise, IdleRowsPromise, CreateRowsPromise, RecoverRowsPromise}

-- create
pub create-one : (u : Setup) (x : LentRows) (d e : CalledRows) → CreateRowsPromise u x d → CreateRowsPromise u x e → d ≡ e
create-one u x d e p q = p.exact ∙ sym q.exact

-- recover
pub recover-one : (u : Setup) (v : View) (nonce : ℕ) (x : LentRows) (d e : CalledRows) → RecoverRowsPromise u v nonce x d
    → RecoverRowsPromise u v nonce x e → d ≡ e
recover-one u v nonce x d e p q = p.exact ∙ sym q.exact

-- on_message
pub on-message-one : (s : Replica) (frame : List ℕ) (x : LentRows) (d e : CalledRows) → MessageRowsPromise s frame x d
    → MessageRowsPromise s frame x e → d ≡ e
on-message-one s frame x d e p q = p.exact ∙ sym q.exact

-- on_idle
pub on-idle-one : (s : Replica) (x : LentRows) (d e : CalledRows) → IdleRowsPromise s x d → IdleRowsPromise s x e → d ≡ e
on-idle-one s x d e p q = p.exact ∙ sym q.exact
