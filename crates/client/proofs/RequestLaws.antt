-- A request number is never used twice, and a re-send carries the number of the pending request.
--     number-given, next-rises, sent-is     a request that is done has the next number, and raises it by one
--     next-stays, next-least       no call lowers the next number, nor do any calls one after the other
--     never-twice                  the number of a later request that is done is greater, whatever was called between the two
--     pending-sent                 a request that is done is pending as the entry that was sent, under the number given
--     frame_at, frame-number       the frame of a re-send to each replica is that of the pending entry, with its number
-- Assumes nothing.
use mathlib.Core.Path.{◌≡◌, refl, sym, ap, ◌∙◌}
use mathlib.Core.List.{List, [], ◌∷◌}
use mathlib.Core.Logic.{⊎_elim}
use Prim.Native.Nat.{ℕ, zero, suc, ◌+◌, ◌*◌, ◌^◌, ◌≤◌, ◌<◌}
use native.Mathlib.Nat.{le_refl, le_trans}
use native.Mathlib.Omega.{arith}
use lib.ListN.{length, take, drop, length-drop}
use lib.Seq.{take-append-le, drop-append-le, drop_at, take_all}
use Rattle.std.specs.Prelude.{Result, Ok, Err}
use Rattle.numbers.specs.Numbers.{num, big}
use Rattle.numbers.specs.declared.View.{View}
use Rattle.numbers.proofs.WordLaws.{split}
use Rattle.numbers.proofs.NumberLaws.{be-big, eq-or-not}
use Rattle.entries.specs.Entries.{encode_entry}
use Rattle.entries.specs.declared.Entry.{Entry}
use Rattle.config.specs.Setup.{replicas_ok}
use Rattle.writers.specs.Writers.{header, encode}
use Rattle.client.specs.declared.Client.{Client}
use Rattle.client.specs.declared.refusal.ClientRefusal.{ClientRefusal}
use Rattle.client.specs.declared.RequestSent.{RequestSent}
use Rattle.client.specs.declared.AfterRequest.{AfterRequest}
use Rattle.client.specs.declared.AfterReply.{AfterReply}
use Rattle.client.specs.Client.{may_request, next_entry, request_to, asked, asked_if, requested_of, replied_of, frames_to}
use Rattle.client.specs.Calls.{ClientCall, request, reply, idle, after_call, after_calls}
use Rattle.client.proofs.RefusalLaws.{frame-length, frames-length}

module _ (c : Client) (operation member cents room : ℕ) where
  pub pending-sent : may_request c operation cents room ≡ Ok tt → requested_of c operation member cents room ≡ asked c (next_entry c operation member cents)
  unfolding requested_of
  pending-sent h = rw h

  pub number-given : may_request c operation cents room ≡ Ok tt → (requested_of c operation member cents room).answer ≡ Ok (record { number = c.next; written = 39 })
  number-given h = ap (λ (x : AfterRequest). x.answer) (pending-sent h)

  pub next-rises : may_request c operation cents room ≡ Ok tt → (requested_of c operation member cents room).client.next ≡ c.next + 1
  next-rises h = ap (λ (x : AfterRequest). x.client.next) (pending-sent h)

  -- the same of an answer that is none of the refusals
  pub sent-is : (sent : RequestSent) → (requested_of c operation member cents room).answer ≡ Ok sent
      → (sent.number ≡ c.next) × ((requested_of c operation member cents room).client.next ≡ c.next + 1)
  unfolding requested_of
  sent-is sent = go (may_request c operation cents room)
    where
      go : (r : Result (Unit {0}) ClientRefusal) → (asked_if r c (next_entry c operation member cents)).answer ≡ Ok sent
          → (sent.number ≡ c.next) × ((asked_if r c (next_entry c operation member cents)).client.next ≡ c.next + 1)
      go (Ok done) h = let e : sent ≡ record { number = c.next; written = 39 } = cc in (ap (λ (x : RequestSent). x.number) e, refl)
      go (Err cause) h = cc

  request-least : c.next ≤ (requested_of c operation member cents room).client.next
  unfolding requested_of
  request-least = go (may_request c operation cents room)
    where
      go : (r : Result (Unit {0}) ClientRefusal) → c.next ≤ (asked_if r c (next_entry c operation member cents)).client.next
      go (Ok done) = omega arith
      go (Err cause) = omega arith

reply-same : (c : Client) (number : ℕ) (view : View) → (replied_of c number view).client.next ≡ c.next
unfolding replied_of
reply-same c number view = split (λ (x : AfterReply). x.client.next ≡ c.next) (replicas_ok c.n) _ _ (λ h. refl) (λ h. refl)

pub next-stays : (c : Client) (k : ClientCall) → c.next ≤ (after_call c k).next
unfolding after_call
next-stays c (request operation member cents room) = request-least c operation member cents room
next-stays c (reply number view) = omega (arith, reply-same c number view)
next-stays c (idle room) = le_refl c.next

pub next-least : (c : Client) (ks : List ClientCall) → c.next ≤ (after_calls c ks).next
unfolding after_calls
next-least c [] = le_refl c.next
next-least c (k ∷ ks) = le_trans (next-stays c k) (next-least (after_call c k) ks)

-- The first request, what was called after it, and the second request. That both are done shows in that each has an answer, and its number.
pub never-twice : (c : Client) (o m x r : ℕ) (ks : List ClientCall) (o' m' x' r' : ℕ) → let d = after_calls (requested_of c o m x r).client ks in
    (sent sent' : RequestSent) → (requested_of c o m x r).answer ≡ Ok sent → (requested_of d o' m' x' r').answer ≡ Ok sent' → sent.number < sent'.number
never-twice c o m x r ks o' m' x' r' sent sent' h g =
    let b = (requested_of c o m x r).client in
    let first = sent-is c o m x r sent h in
    let second = sent-is (after_calls b ks) o' m' x' r' sent' g in
    omega (arith, first.0, first.1, next-least b ks, second.0)

-- ---- a re-send

module _ (n k : ℕ) (e : Entry) where
  -- the frame written last
  frame-last : k ≡ n → take 39 (drop (k * 39) (frames_to (suc n) e)) ≡ request_to k e
  unfolding frames_to
  frame-last q =
      let l : length (frames_to n e) ≡ k * 39 = frames-length n e ∙ ap (λ (x : ℕ). x * 39) (sym q) in
      rw (drop_at (frames_to n e) _ (k * 39) l, ← q) (take_all 39 (request_to k e) (omega (arith, frame-length k e)))

  -- one before it
  frame-early : k < n → take 39 (drop (k * 39) (frames_to (suc n) e)) ≡ take 39 (drop (k * 39) (frames_to n e))
  unfolding frames_to
  frame-early l =
      let f = frames-length n e in
      let g : 39 ≤ length (drop (k * 39) (frames_to n e)) = simp length-drop (omega (arith, f)) in
      rw (drop-append-le (k * 39) (frames_to n e) _ (omega (arith, f)), take-append-le 39 (drop (k * 39) (frames_to n e)) _ g)

pub frame_at : (n k : ℕ) (e : Entry) → k < n → take 39 (drop (k * 39) (frames_to n e)) ≡ request_to k e
frame_at zero k e h = absurd (omega arith)
frame_at (suc n) k e h =
    ⊎_elim (frame-last n k e) (λ ne. frame-early n k e (omega (arith, h, ne)) ∙ frame_at n k e (omega (arith, h, ne))) (eq-or-not k n)

-- bytes 15 to 22 of a Request
pub frame-number : (to : ℕ) (e : Entry) → e.request < 2 ^ 64 → num 8 15 (request_to to e) ≡ e.request
unfolding encode header big encode_entry num
frame-number to e h = be-big 8 e.request h
