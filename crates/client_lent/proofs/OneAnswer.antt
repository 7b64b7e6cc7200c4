-- Equality of any two permitted answers, refused ones included: two answers, with the records behind the reference and the areas at exit, that
-- both meet a function's contract are equal. Assumes nothing.
use mathlib.Core.Path.{◌≡◌}
use mathlib.Core.List.{List}
use Prim.Native.Nat.{ℕ}
use lib.ListN.{length}
use Rattle.std.specs.Prelude.{Bool, Result}
use Rattle.numbers.specs.declared.View.{View}
use Rattle.client.specs.declared.Client.{Client}
use Rattle.client.specs.declared.RequestSent.{RequestSent}
use Rattle.client.specs.declared.refusal.ClientRefusal.{ClientRefusal}
use Rattle.client.specs.Client.{requested_of, requested_area, replied_of, idled_of, idled_area}
use Rattle.client.proofs.OneAnswer.{one}

-- both contracts, as one product
pub both : {A B C : Type 0} {x y z : A} {u v w : B} {p q r : C} → (x ≡ z) × ((u ≡ w) × (p ≡ r)) → (y ≡ z) × ((v ≡ w) × (q ≡ r)) → (x ≡ y) × ((u ≡ v) × (p ≡ q))
both m n = (one m.0 n.0, (one m.1.0 n.1.0, one m.1.1 n.1.1))

pub request-one : (h : Client) (operation member cents : ℕ) (s : List ℕ) (r t : Result RequestSent ClientRefusal) (c d : Client) (x y : List ℕ)
    → (r ≡ (requested_of h operation member cents (length s)).answer) × ((c ≡ (requested_of h operation member cents (length s)).client) × (x ≡ requested_area h operation member cents s))
    → (t ≡ (requested_of h operation member cents (length s)).answer) × ((d ≡ (requested_of h operation member cents (length s)).client) × (y ≡ requested_area h operation member cents s))
    → (r ≡ t) × ((c ≡ d) × (x ≡ y))
request-one h operation member cents s r t c d x y = both

pub reply-one : (h : Client) (number : ℕ) (view : View) (r t : Result Bool ClientRefusal) (c d : Client)
    → (r ≡ (replied_of h number view).answer) × (c ≡ (replied_of h number view).client)
    → (t ≡ (replied_of h number view).answer) × (d ≡ (replied_of h number view).client)
    → (r ≡ t) × (c ≡ d)
reply-one h number view r t c d m n = (one m.0 n.0, one m.1 n.1)

pub idle-one : (h : Client) (s : List ℕ) (r t : Result ℕ ClientRefusal) (c d : Client) (x y : List ℕ)
    → (r ≡ idled_of h (length s)) × ((c ≡ h) × (x ≡ idled_area h s)) → (t ≡ idled_of h (length s)) × ((d ≡ h) × (y ≡ idled_area h s)) → (r ≡ t) × ((c ≡ d) × (x ≡ y))
idle-one h s r t c d x y = both
