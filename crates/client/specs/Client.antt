-- Document 01, the client. `on_request` replaces the pending request; `on_idle` sends it to every replica; `on_reply` raises the view even when the
-- number doesn't match. A client call is refused by 1 (n is not 3 to 7), 2 (operation or cents outside the entry rules), 11 (the next request
-- number is 2^64-1; for requests only), 9 (the frames don't fit the area), in this order; record and area then stay as they were. Assumes nothing.
use Rattle.std.specs.Prelude.{◌≡◌, Bool, false, not, List, [], ◌++◌, ℕ, zero, suc, ◌+◌, max, eqb, ltb, length, Option, None, Some, Result, Ok, Err, is_ok}
use Rattle.std.specs.Result.{result_and}
use Rattle.numbers.specs.Words.{when◌then◌else◌}
use Rattle.numbers.specs.Numbers.{over}
use Rattle.numbers.specs.declared.View.{View}
use Rattle.entries.specs.Entries.{operation_ok}
use Rattle.entries.specs.declared.Entry.{Entry}
use Rattle.config.specs.Setup.{replicas_ok, primary_of}
use Rattle.frames.specs.declared.Message.TheVariants.{Request}
use Rattle.writers.specs.Writers.{encode}
use Rattle.client.specs.declared.refusal.ClientRefusal.{ClientRefusal}
use Rattle.client.specs.declared.refusal.ClientRefusal.TheVariants.{OutOfRange, BadEntry, NoNumber, NoRoom}
use Rattle.client.specs.declared.Client.{Client}
use Rattle.client.specs.declared.AfterCreate.{AfterCreate}
use Rattle.client.specs.declared.RequestSent.{RequestSent}
use Rattle.client.specs.declared.AfterRequest.{AfterRequest}
use Rattle.client.specs.declared.AfterReply.{AfterReply}

-- ---- creation

abbrev pub fresh_client : (n id : ℕ) → Client
fresh_client n id = record { n = n; id = id; view = record { 0 = 0 }; next = 0; pending = None }

-- refused: the all-zero record, which every call then refuses
unfoldable pub create_of : (n id : ℕ) → AfterCreate
create_of n id =
    when replicas_ok n
    then record { client = fresh_client n id; answer = Ok tt }
    else record { client = fresh_client 0 0; answer = Err OutOfRange }

-- ---- a request

-- refused by the first cause
unfoldable pub may_request : Client → (operation cents room : ℕ) → Result (Unit {0}) ClientRefusal
may_request c operation cents room =
    when not (replicas_ok c.n) then Err OutOfRange else
    when not (operation_ok operation cents) then Err BadEntry else
    when eqb c.next 18446744073709551615 then Err NoNumber else
    when ltb room 39 then Err NoRoom else
    Ok tt

-- the entry that is sent: it has the next request number
abbrev pub next_entry : Client → (operation member cents : ℕ) → Entry
next_entry c operation member cents =
    record { client = c.id; request = c.next; operation = operation; member = member; cents = cents }

-- the frame that asks replica `to` for an entry
abbrev pub request_to : (to : ℕ) → Entry → List ℕ
request_to to e = encode to (Request e) []

-- done: the request is pending in place of any other, and the next one has the next number
abbrev pub asked : Client → Entry → AfterRequest
asked c e =
    record {
      client = record c { next = c.next + 1; pending = Some e };
      answer = Ok (record { number = c.next; written = 39 });
    }

-- or refused: the record stays as it was
abbrev pub asked_if : Result (Unit {0}) ClientRefusal → Client → Entry → AfterRequest
asked_if (Ok done) c e = asked c e
asked_if (Err cause) c e = record { client = c; answer = Err cause }

unfoldable pub requested_of : Client → (operation member cents room : ℕ) → AfterRequest
requested_of c operation member cents room =
    asked_if (may_request c operation cents room) c (next_entry c operation member cents)

-- the area after it: the frame to the primary of the view known is over its front
unfoldable pub requested_area : Client → (operation member cents : ℕ) → List ℕ → List ℕ
requested_area c operation member cents s =
    when is_ok (may_request c operation cents (length s))
    then over (request_to (primary_of c.n c.view) (next_entry c operation member cents)) s
    else s

-- what a request leaves where the record is lent: answer, record and area
abbrev pub Requests : Client → (operation member cents : ℕ) (area : List ℕ) → Result RequestSent ClientRefusal → Client → List ℕ → Type 0
Requests c operation member cents s r c' s' =
    (r ≡ (requested_of c operation member cents (length s)).answer)
    × ((c' ≡ (requested_of c operation member cents (length s)).client) × (s' ≡ requested_area c operation member cents s))

-- ---- a reply

-- the greater of two views
unfoldable pub raised_view : View → View → View
raised_view v w = record { 0 = max v.0 w.0 }

-- whether a request is pending and has this number
unfoldable pub awaits : Option Entry → ℕ → Bool
awaits None number = false
awaits (Some e) number = eqb e.request number

-- what is pending after a reply: it clears the request that it answers
unfoldable pub left_pending : Option Entry → ℕ → Option Entry
left_pending p number = when awaits p number then None else p

-- the view is raised whether the number matches or not
abbrev pub heard_reply : Client → ℕ → View → AfterReply
heard_reply c number view =
    record {
      client = record c { view = raised_view c.view view; pending = left_pending c.pending number };
      answer = Ok (awaits c.pending number);
    }

unfoldable pub replied_of : Client → ℕ → View → AfterReply
replied_of c number view =
    when replicas_ok c.n
    then heard_reply c number view
    else record { client = c; answer = Err OutOfRange }

-- ---- an idle call: the record stays as it is

-- a frame to each replica below n, in id order, each straight after the one before it
unfoldable pub frames_to : (n : ℕ) → Entry → List ℕ
frames_to zero e = []
frames_to (suc k) e = frames_to k e ++ request_to k e

-- what is sent again: nothing where nothing is pending
unfoldable pub frames_again : (n : ℕ) → Option Entry → List ℕ
frames_again n None = []
frames_again n (Some e) = frames_to n e

-- refused by the first cause
unfoldable pub may_idle : Client → (room : ℕ) → Result (Unit {0}) ClientRefusal
may_idle c room =
    when not (replicas_ok c.n) then Err OutOfRange else
    when ltb room (length (frames_again c.n c.pending)) then Err NoRoom else
    Ok tt

-- how many bytes are written
unfoldable pub idled_of : Client → (room : ℕ) → Result ℕ ClientRefusal
idled_of c room = result_and (may_idle c room) (Ok (length (frames_again c.n c.pending)))

unfoldable pub idled_area : Client → List ℕ → List ℕ
idled_area c s = when is_ok (may_idle c (length s)) then over (frames_again c.n c.pending) s else s
