-- Equality of any two permitted answers at the C boundary, refused ones included: two answers, with all that was lent as they leave it, that both meet a call's
-- contract are equal. Assumes nothing.
use mathlib.Core.Path.{◌≡◌, sym, ◌∙◌}
use mathlib.Core.List.{List}
use Prim.Native.Nat.{ℕ}
use Rattle.numbers.specs.declared.View.{View}
use Rattle.config.specs.declared.Setup.{Setup}
use Rattle.replica.specs.Lent.{Lent}
use Rattle.whitherhaul.specs.Replicas.{SumTold, Ran, MessageRan, IdleRan, CreateRan, RecoverRan, TakingsRan}
use Rattle.whitherhaul.specs.Clients.{ClientCreated, Requested, Replied, Idled, Read', ClientCreateRan, RequestRan, ReplyRan, client_idle_run, read_run}

-- whitherhaul_create
pub create-one : (u : Setup) (state : List ℕ) (x : Lent) (d e : Ran) → CreateRan u state x d → CreateRan u state x e → d ≡ e
create-one u state x d e p q = p.exact ∙ sym q.exact

-- whitherhaul_recover
pub recover-one : (u : Setup) (v : View) (nonce : ℕ) (state : List ℕ) (x : Lent) (d e : Ran) → RecoverRan u v nonce state x d
    → RecoverRan u v nonce state x e → d ≡ e
recover-one u v nonce state x d e p q = p.exact ∙ sym q.exact

-- whitherhaul_on_message
pub on-message-one : (state frame : List ℕ) (x : Lent) (d e : Ran) → MessageRan state frame x d → MessageRan state frame x e → d ≡ e
on-message-one state frame x d e p q = p.exact ∙ sym q.exact

-- whitherhaul_on_idle
pub on-idle-one : (state : List ℕ) (x : Lent) (d e : Ran) → IdleRan state x d → IdleRan state x e → d ≡ e
on-idle-one state x d e p q = p.exact ∙ sym q.exact

-- whitherhaul_takings
pub takings-one : (state : List ℕ) (d e : SumTold) → TakingsRan state d → TakingsRan state e → d ≡ e
takings-one state d e p q = p.exact ∙ sym q.exact

-- whitherhaul_client_create
pub client-create-one : (n id : ℕ) (run : List ℕ) (d e : ClientCreated) → ClientCreateRan n id run d → ClientCreateRan n id run e → d ≡ e
client-create-one n id run d e p q = p.exact ∙ sym q.exact

-- whitherhaul_client_request
pub client-request-one : (run : List ℕ) (operation member cents : ℕ) (area : List ℕ) (d e : Requested)
    → RequestRan run operation member cents area d → RequestRan run operation member cents area e → d ≡ e
client-request-one run operation member cents area d e p q = p.exact ∙ sym q.exact

-- whitherhaul_client_reply
pub client-reply-one : (run : List ℕ) (number : ℕ) (v : View) (d e : Replied) → ReplyRan run number v d → ReplyRan run number v e → d ≡ e
client-reply-one run number v d e p q = p.exact ∙ sym q.exact

-- whitherhaul_client_idle
pub client-idle-one : (run area : List ℕ) (d e : Idled) → d ≡ client_idle_run run area → e ≡ client_idle_run run area → d ≡ e
client-idle-one run area d e p q = p ∙ sym q

-- whitherhaul_read_reply
pub read-reply-one : (frame : List ℕ) (d e : Read') → d ≡ read_run frame → e ≡ read_run frame → d ≡ e
read-reply-one frame d e p q = p ∙ sym q
