-- What a recorded run of a client is: a creation and calls, each with what was answered; and what it says of the client's definitions: that
-- they answer just so. The fields are those of ../shared/vectors/FORMAT.md. Assumes nothing.
use Rattle.std.specs.Prelude.{ℕ, ◌-◌, ◌≡◌, Bool, List, [], ◌∷◌, ◌++◌, length, replicate, Option, None, Some, Result, Ok, Err}
use Rattle.entries.specs.declared.Entry.{Entry}
use Rattle.model.specs.State.{view_of}
use Rattle.client.specs.declared.refusal.ClientRefusal.{ClientRefusal}
use Rattle.client.specs.declared.RequestSent.{RequestSent}
use Rattle.client.specs.declared.Client.{Client}
use Rattle.client.specs.declared.AfterCreate.{AfterCreate}
use Rattle.client.specs.Refusals.{client_refusal_number, answer_number}
use Rattle.client.specs.Client.{create_of, requested_of, requested_area, replied_of}
use Rattle.client.specs.Client.{idled_of, idled_area}
use Rattle.against_rust.specs.Shape.{flag}

-- an area before a call: no frame has such bytes only
unfoldable pub lent : ℕ → List ℕ
lent a = replicate a 170

-- What is seen of a call: its numbers, then view, next number and the pending one, if any; and the whole area after it. The call's numbers are,
-- of a creation its refusal, of a request its refusal, the number given and the bytes written, of a reply its refusal and 1 where it answers, of
-- an idle call its refusal and the bytes written.
pub record Seen : Type 0 where
  pub numbers : List ℕ
  pub area : List ℕ

-- the bytes written, over an area of so many bytes
unfoldable pub saw : ℕ → (numbers bytes : List ℕ) → Seen
saw a ns bs = record { numbers = ns; area = bs ++ lent (a - length bs) }

-- A creation; or a record that is set, since no short run leads to its view and next number.
pub data Start : Type 0 where
  made : Start
  set : (view next : ℕ) → Start

-- a call, with the size of the area, and what was seen of it
pub data Line : Type 0 where
  request : (operation member cents room : ℕ) → Seen → Line
  reply : (number view : ℕ) → Seen → Line
  idle : (room : ℕ) → Seen → Line

-- n, the client's id, how it begins, what was seen of that, and the calls after it
pub record Run : Type 0 where
  pub n : ℕ
  pub id : ℕ
  pub start : Start
  pub first : Seen
  pub lines : List Line

unfoldable pub run : (n id : ℕ) → Start → Seen → List Line → Run
run n id s f ls = record { n = n; id = id; start = s; first = f; lines = ls }

-- the pending number, where there is one
unfoldable pub pending_number : Option Entry → List ℕ
pending_number None = []
pending_number (Some e) = e.request ∷ []

-- view, next number and the pending one
unfoldable pub known : Client → List ℕ
known c = c.view.0 ∷ c.next ∷ pending_number c.pending

-- what was recorded of a call
unfoldable pub wanted : Line → Seen
wanted (request o k x a w) = w
wanted (reply k v w) = w
wanted (idle a w) = w

-- what was recorded of each
unfoldable pub all_wanted : List Line → List Seen
all_wanted [] = []
all_wanted (l ∷ ls) = wanted l ∷ all_wanted ls

-- the record after a call
unfoldable pub after_line : Client → Line → Client
after_line c (request o k x a w) = (requested_of c o k x a).client
after_line c (reply k v w) = (replied_of c k (view_of v)).client
after_line c (idle a w) = c

-- a request's numbers: its refusal, the number given and the bytes written
abbrev pub request_numbers : Result RequestSent ClientRefusal → List ℕ
request_numbers (Ok sent) = 0 ∷ sent.number ∷ sent.written ∷ []
request_numbers (Err cause) = client_refusal_number cause ∷ 0 ∷ 0 ∷ []

-- a reply's: its refusal, and 1 where it answers
abbrev pub reply_numbers : Result Bool ClientRefusal → List ℕ
reply_numbers (Ok done) = 0 ∷ flag done ∷ []
reply_numbers (Err cause) = client_refusal_number cause ∷ 0 ∷ []

-- an idle call's: its refusal and the bytes written
abbrev pub idle_numbers : Result ℕ ClientRefusal → List ℕ
idle_numbers (Ok written) = 0 ∷ written ∷ []
idle_numbers (Err cause) = client_refusal_number cause ∷ 0 ∷ []

-- what is seen of the definitions' answer to a call
unfoldable pub shown : Client → Line → Seen
shown c (request o k x a w) =
    record {
      numbers = request_numbers (requested_of c o k x a).answer ++ known (requested_of c o k x a).client;
      area = requested_area c o k x (lent a);
    }
shown c (reply k v w) =
    record { numbers = reply_numbers (replied_of c k (view_of v)).answer ++ known (replied_of c k (view_of v)).client; area = [] }
shown c (idle a w) =
    record { numbers = idle_numbers (idled_of c a) ++ known c; area = idled_area c (lent a) }

-- call after call
unfoldable pub seen : Client → List Line → List Seen
seen c [] = []
seen c (l ∷ ls) = shown c l ∷ seen (after_line c l) ls

-- and of its creation
unfoldable pub seen_from : AfterCreate → List Line → List Seen
seen_from r ls = record { numbers = answer_number r.answer ∷ known r.client; area = [] } ∷ seen r.client ls

unfoldable pub starts : (n id : ℕ) → Start → AfterCreate
starts n id made = create_of n id
starts n id (set v k) = record { client = record { n = n; id = id; view = view_of v; next = k; pending = None }; answer = Ok tt }

-- the client answers as recorded
abbrev pub ClientRunHolds : Run → Type 0
ClientRunHolds r = seen_from (starts r.n r.id r.start) r.lines ≡ r.first ∷ all_wanted r.lines
