-- The client's calls at the C boundary: the record lies in a lent run. A run that holds no record is refused by 1; a refused call leaves record and area as they were,
-- and its other answers are 0. Assumes nothing.
use Rattle.std.specs.Prelude.{◌≡◌, Bool, true, not, List, [], ◌∷◌, ℕ, eqb, length, Result, Ok, Err}
use Rattle.numbers.specs.Words.{when◌then◌else◌}
use Rattle.numbers.specs.declared.View.{View}
use Rattle.client.specs.declared.refusal.ClientRefusal.{ClientRefusal}
use Rattle.client.specs.declared.refusal.ClientRefusal.TheVariants.{OutOfRange}
use Rattle.client.specs.declared.Client.{Client}
use Rattle.client.specs.declared.RequestSent.{RequestSent}
use Rattle.client.specs.declared.ReplyFields.{ReplyFields}
use Rattle.client.specs.declared.Malformed.{Malformed}
use Rattle.client.specs.Refusals.{client_refusal_number}
use Rattle.client.specs.Client.{create_of, requested_of, requested_area, replied_of, idled_of, idled_area}
use Rattle.client.specs.Outcomes.{outcome_number}
use Rattle.client.specs.Replies.{read_reply}
use Rattle.state_bytes.specs.Layout.{flag_number}
use Rattle.client_bytes.specs.Layout.{record_of, encode_record, record_ok}

-- create
pub record ClientCreated : Type 0 where
  pub code : ℕ
  pub run : List ℕ

abbrev pub after_create : Result (Unit {0}) ClientRefusal → Client → (run : List ℕ) → ClientCreated
after_create (Ok done) c run = record { code = 0; run = encode_record c }
after_create (Err cause) c run = record { code = client_refusal_number cause; run = run }

unfoldable pub client_create_run : (n id : ℕ) (run : List ℕ) → ClientCreated
client_create_run n id run =
    when not (eqb (length run) 54) then record { code = client_refusal_number OutOfRange; run = run } else
    after_create (create_of n id).answer (create_of n id).client run

-- on_request; answers: the request's number, bytes written
pub record Requested : Type 0 where
  pub code : ℕ
  pub answers : List ℕ
  pub run : List ℕ
  pub area : List ℕ

abbrev pub after_request : Result RequestSent ClientRefusal → Client → (run area : List ℕ) → Requested
after_request (Ok sent) c run area =
    record { code = 0; answers = sent.number ∷ sent.written ∷ []; run = encode_record c; area = area }
after_request (Err cause) c run area =
    record { code = client_refusal_number cause; answers = 0 ∷ 0 ∷ []; run = run; area = area }

unfoldable pub request_run : (run : List ℕ) (operation member cents : ℕ) (area : List ℕ) → Requested
request_run run operation member cents area =
    when not (record_ok run) then record { code = client_refusal_number OutOfRange; answers = 0 ∷ 0 ∷ []; run = run; area = area } else
    after_request (requested_of (record_of run) operation member cents (length area)).answer
    (requested_of (record_of run) operation member cents (length area)).client run (requested_area (record_of run) operation member cents area)

-- on_reply; answers: 1 where the reply was awaited, else 0
pub record Replied : Type 0 where
  pub code : ℕ
  pub answers : List ℕ
  pub run : List ℕ

abbrev pub after_reply : Result Bool ClientRefusal → Client → (run : List ℕ) → Replied
after_reply (Ok done) c run = record { code = 0; answers = flag_number done ∷ []; run = encode_record c }
after_reply (Err cause) c run = record { code = client_refusal_number cause; answers = 0 ∷ []; run = run }

unfoldable pub reply_run : (run : List ℕ) (number : ℕ) → View → Replied
reply_run run number v =
    when not (record_ok run) then record { code = client_refusal_number OutOfRange; answers = 0 ∷ []; run = run } else
    after_reply (replied_of (record_of run) number v).answer (replied_of (record_of run) number v).client run

-- on_idle: the record is only read; answers: bytes written
pub record Idled : Type 0 where
  pub code : ℕ
  pub answers : List ℕ
  pub area : List ℕ

abbrev pub after_idle : Result ℕ ClientRefusal → (area : List ℕ) → Idled
after_idle (Ok written) area = record { code = 0; answers = written ∷ []; area = area }
after_idle (Err cause) area = record { code = client_refusal_number cause; answers = 0 ∷ []; area = area }

unfoldable pub client_idle_run : (run area : List ℕ) → Idled
client_idle_run run area =
    when not (record_ok run) then record { code = client_refusal_number OutOfRange; answers = 0 ∷ []; area = area } else
    after_idle (idled_of (record_of run) (length area)) (idled_area (record_of run) area)

-- a Reply, read; answers: view, client, request, outcome, total
pub record Read' : Type 0 where
  pub code : ℕ
  pub answers : List ℕ

unfoldable pub after_read : Result ReplyFields Malformed → Read'
after_read (Ok r) =
    record { code = 0; answers = r.view.0 ∷ r.client ∷ r.request ∷ outcome_number r.outcome ∷ r.total ∷ [] }
after_read (Err m) = record { code = 2; answers = 0 ∷ 0 ∷ 0 ∷ 0 ∷ 0 ∷ [] }

unfoldable pub read_run : (frame : List ℕ) → Read'
read_run frame = after_read (read_reply frame)

-- The run holds the record that the call answered.
pub record ClientHeld (run : List ℕ) (c : Client) : Type 0 where
  pub ok : record_ok run ≡ true
  pub back : record_of run ≡ c

-- What the calls that write a record promise: `exact`, and that the record is handed on.
pub record ClientCreateRan (n id : ℕ) (run : List ℕ) (d : ClientCreated) : Type 0 where
  pub exact : d ≡ client_create_run n id run
  pub next : d.code ≡ 0 → ClientHeld d.run (create_of n id).client

pub record RequestRan (run : List ℕ) (operation member cents : ℕ) (area : List ℕ) (d : Requested) : Type 0 where
  pub exact : d ≡ request_run run operation member cents area
  pub next : record_ok run ≡ true → ClientHeld d.run (requested_of (record_of run) operation member cents (length area)).client

pub record ReplyRan (run : List ℕ) (number : ℕ) (v : View) (d : Replied) : Type 0 where
  pub exact : d ≡ reply_run run number v
  pub next : record_ok run ≡ true → ClientHeld d.run (replied_of (record_of run) number v).client
