-- Equality of any two permitted answers, refused ones included: two answers, with the areas beside them, that both meet a function's contract
-- are equal. Assumes nothing.
use mathlib.Core.Path.{◌≡◌, sym, ◌∙◌}
use mathlib.Core.List.{List}
use Prim.Native.Nat.{ℕ}
use lib.ListN.{length}
use Rattle.std.specs.Prelude.{Result}
use Rattle.numbers.specs.declared.View.{View}
use Rattle.client.specs.declared.Client.{Client}
use Rattle.client.specs.declared.AfterCreate.{AfterCreate}
use Rattle.client.specs.declared.AfterRequest.{AfterRequest}
use Rattle.client.specs.declared.AfterReply.{AfterReply}
use Rattle.client.specs.declared.refusal.ClientRefusal.{ClientRefusal}
use Rattle.client.specs.declared.outcome.ReplyOutcome.{ReplyOutcome}
use Rattle.client.specs.declared.outcome.NoOutcome.{NoOutcome}
use Rattle.client.specs.declared.ReplyFields.{ReplyFields}
use Rattle.client.specs.declared.Malformed.{Malformed}
use Rattle.client.specs.Client.{create_of, requested_of, requested_area, replied_of, idled_of, idled_area}
use Rattle.client.specs.Refusals.{client_refusal_number}
use Rattle.client.specs.Outcomes.{outcome_number, outcome_of}
use Rattle.client.specs.Replies.{Reads}

pub one : {A : Type 0} {x y z : A} → x ≡ z → y ≡ z → x ≡ y
one p q = p ∙ sym q

pub create-one : (n id : ℕ) (r t : AfterCreate) → r ≡ create_of n id → t ≡ create_of n id → r ≡ t
create-one n id r t = one

pub requested-one : (c : Client) (operation member cents : ℕ) (s : List ℕ) (r t : AfterRequest) (x y : List ℕ)
    → (r ≡ requested_of c operation member cents (length s)) × (x ≡ requested_area c operation member cents s)
    → (t ≡ requested_of c operation member cents (length s)) × (y ≡ requested_area c operation member cents s)
    → (r ≡ t) × (x ≡ y)
requested-one c operation member cents s r t x y p q = (one p.0 q.0, one p.1 q.1)

pub replied-one : (c : Client) (number : ℕ) (view : View) (r t : AfterReply) → r ≡ replied_of c number view → t ≡ replied_of c number view → r ≡ t
replied-one c number view r t = one

pub idled-one : (c : Client) (s : List ℕ) (r t : Result ℕ ClientRefusal) (x y : List ℕ)
    → (r ≡ idled_of c (length s)) × (x ≡ idled_area c s) → (t ≡ idled_of c (length s)) × (y ≡ idled_area c s) → (r ≡ t) × (x ≡ y)
idled-one c s r t x y p q = (one p.0 q.0, one p.1 q.1)

pub read-reply-one : (s : List ℕ) (r t : Result ReplyFields Malformed) → Reads s r → Reads s t → r ≡ t
read-reply-one s r t p q = one p.exact q.exact

-- u8::from of a refusal, of an outcome; ReplyOutcome::try_from
pub refusal-number-one : (cause : ClientRefusal) (r t : ℕ) → r ≡ client_refusal_number cause → t ≡ client_refusal_number cause → r ≡ t
refusal-number-one cause r t = one

pub outcome-number-one : (outcome : ReplyOutcome) (r t : ℕ) → r ≡ outcome_number outcome → t ≡ outcome_number outcome → r ≡ t
outcome-number-one outcome r t = one

pub outcome-of-one : (k : ℕ) (r t : Result ReplyOutcome NoOutcome) → r ≡ outcome_of k → t ≡ outcome_of k → r ≡ t
outcome-of-one k r t = one
