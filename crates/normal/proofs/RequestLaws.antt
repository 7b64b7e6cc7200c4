-- The ways out of on_request and of the steps that weigh it, on plain variables, as the code's tests and calls give them. Assumes nothing.
use mathlib.Core.Path.{◌≡◌, ap, ◌∙◌, subst}
use mathlib.Core.Bool.{true, false, not}
use mathlib.Core.List.{List}
use Prim.Native.Nat.{ℕ, ◌+◌, ◌*◌, ◌≤◌, ◌<◌}
use native.Mathlib.Omega.{arith}
use lib.Dec.{ltb, leb}
use lib.ListN.{length, take, set}
use borrow.Author.Tests.{lt-ltb, le-ltb, le-leb, lt-leb, ltb-false, leb-false}
use Rattle.numbers.specs.Words.{when◌then◌else◌}
use Rattle.numbers.specs.Numbers.{Wrote}
use Rattle.numbers.proofs.WordLaws.{split}
use Rattle.entries.specs.Entries.{encode_entry}
use Rattle.entries.specs.Places.{entry_place, ack_place}
use Rattle.entries.specs.declared.Entry.{Entry}
use Rattle.entries.proofs.PlaceLaws.{place_is, entry-room}
use Rattle.config.specs.Replicas.{with_member}
use Rattle.config.proofs.SetupLaws.{sized}
use Rattle.fees.specs.declared.Outcome.{Outcome}
use Rattle.writers.specs.Writers.{size_of, reply, to_others}
use Rattle.client_table.specs.Latest.{is_new}
use Rattle.client_table.specs.declared.Latest.{Latest}
use Rattle.client_table.specs.declared.Latest.TheVariants as Row
use Rattle.book.specs.Log.{with_entries}
use Rattle.book.specs.Runs.{reply_to}
use Rattle.book.proofs.RunLaws.{reply-length}
use Rattle.state.specs.State.{leads, with_log}
use Rattle.state.specs.Statuses.{is_normal}
use Rattle.state.specs.Answers.{refusal, completed, quiet}
use Rattle.state.specs.declared.Returned.{Returned}
use Rattle.state.specs.declared.Replica.{Replica}
use Rattle.normal.specs.declared.request.RequestVerdict.{RequestVerdict}
use Rattle.normal.specs.declared.request.RequestVerdict.TheVariants.{Nothing, Resend, Refuse, Append}
use Rattle.normal.specs.Request.{Ready, Took, Answered, served, took, answered, sends_of, again_verdict, known_verdict, new_verdict, client_verdict, request_verdict, next_op, prepare_of, accepted, resent, by_call, request_step}
use Rattle.normal.proofs.SendLaws.{prepare-long}
use Rattle.frames.specs.declared.Refusal.TheVariants.{PastRoom, NoRoomForMessages, NoRoomForReplies}
use Rattle.frames.specs.declared.Refusal.{Refusal}

-- weigh_again
module _ (e : Entry) (request : ℕ) (o : Outcome) (room : ℕ) where
  pub older : e.request < request → Nothing ≡ again_verdict e request o room
  unfolding again_verdict when◌then◌else◌
  older h = rw (lt-ltb e.request request h)

  module _ (g : request ≤ e.request) where
    pub again-short : room < 36 → Refuse NoRoomForReplies ≡ again_verdict e request o room
    unfolding again_verdict when◌then◌else◌
    again-short h = rw (le-ltb e.request request g, lt-ltb room 36 h)

    pub again : 36 ≤ room → Resend o ≡ again_verdict e request o room
    unfolding again_verdict when◌then◌else◌
    again h = rw (le-ltb e.request request g, le-ltb room 36 h)

-- weigh_new
module _ (s : Replica) (out : ℕ) where
  pub full : s.setup.room ≤ s.op.0 → Refuse PastRoom ≡ new_verdict s out
  unfolding new_verdict when◌then◌else◌
  full h = rw (le-leb s.setup.room s.op.0 h)

  module _ (k : ℕ) (g : s.op.0 < s.setup.room) (e : k ≡ sends_of s) where
    pub new-short : out < k → Refuse NoRoomForMessages ≡ new_verdict s out
    unfolding new_verdict when◌then◌else◌
    new-short h = rw (lt-leb s.setup.room s.op.0 g, lt-ltb out (sends_of s) (omega arith))

    pub new : k ≤ out → Append ≡ new_verdict s out
    unfolding new_verdict when◌then◌else◌
    new h = rw (lt-leb s.setup.room s.op.0 g, le-ltb out (sends_of s) (omega arith))

-- weigh_client, weigh
module _ (s : Replica) (e : Entry) (latest : Latest) (out reps : ℕ) where
  pub new-number : (k : RequestVerdict) → is_new latest e.request ≡ true → k ≡ new_verdict s out → k ≡ client_verdict s e latest out reps
  unfolding client_verdict when◌then◌else◌
  new-number k t p = rw t p

  pub known-number : (k : RequestVerdict) → is_new latest e.request ≡ false → k ≡ known_verdict e latest reps → k ≡ client_verdict s e latest out reps
  unfolding client_verdict when◌then◌else◌
  known-number k t p = rw t p

  pub follower : not (leads s) ≡ true → Nothing ≡ request_verdict s e latest out reps
  unfolding request_verdict when◌then◌else◌
  follower l = rw l

  pub absent : not (leads s) ≡ false → not (is_normal s.status) ≡ true → Nothing ≡ request_verdict s e latest out reps
  unfolding request_verdict when◌then◌else◌
  absent l n = rw (l, n)

  pub primary : (k : RequestVerdict) → not (leads s) ≡ false → not (is_normal s.status) ≡ false → k ≡ client_verdict s e latest out reps
      → k ≡ request_verdict s e latest out reps
  unfolding request_verdict when◌then◌else◌
  primary k l n p = rw (l, n) p

-- what a verdict says of the log's room and of the areas
module _ (s : Replica) (out reps : ℕ) where
  abbrev Fits : RequestVerdict → Type 0
  Fits Nothing = Unit {0}
  Fits (Resend o) = 36 ≤ reps
  Fits (Refuse k) = Unit {0}
  Fits Append = (s.op.0 < s.setup.room) × (sends_of s ≤ out)

  again-fits : (e : Entry) (request : ℕ) (o : Outcome) → Fits (again_verdict e request o reps)
  unfolding again_verdict
  again-fits e request o =
      let a : RequestVerdict = when ltb reps 36 then Refuse NoRoomForReplies else Resend o in
      split Fits (ltb e.request request) Nothing a (λ h. tt)
      (λ h. split Fits (ltb reps 36) (Refuse NoRoomForReplies) (Resend o) (λ l. tt) (λ l. ltb-false reps 36 l))

  known-fits : (e : Entry) (latest : Latest) → Fits (known_verdict e latest reps)
  unfolding known_verdict
  known-fits e Row.Nothing = tt
  known-fits e (Row.Waiting request) = tt
  known-fits e (Row.Answered request o) = again-fits e request o

  new-fits : Fits (new_verdict s out)
  unfolding new_verdict
  new-fits =
      let a : RequestVerdict = when ltb out (sends_of s) then Refuse NoRoomForMessages else Append in
      split Fits (leb s.setup.room s.op.0) (Refuse PastRoom) a (λ h. tt)
      (λ h. split Fits (ltb out (sends_of s)) (Refuse NoRoomForMessages) Append (λ l. tt)
      (λ l. (leb-false s.setup.room s.op.0 h, ltb-false out (sends_of s) l)))

  client-fits : (e : Entry) (latest : Latest) → Fits (client_verdict s e latest out reps)
  unfolding client_verdict
  client-fits e latest =
      split Fits (is_new latest e.request) (new_verdict s out) (known_verdict e latest reps) (λ h. new-fits) (λ h. known-fits e latest)

  fits : (e : Entry) (latest : Latest) → Fits (request_verdict s e latest out reps)
  unfolding request_verdict
  fits e latest =
      let b : RequestVerdict = client_verdict s e latest out reps in
      let a : RequestVerdict = when not (is_normal s.status) then Nothing else b in
      split Fits (not (leads s)) Nothing a (λ l. tt)
      (λ l. split Fits (not (is_normal s.status)) Nothing b (λ n. tt) (λ n. client-fits e latest))

  pub resend-fits : (e : Entry) (latest : Latest) {o : Outcome} → request_verdict s e latest out reps ≡ Resend o → 36 ≤ reps
  resend-fits e latest p = subst Fits p (fits e latest)

  pub append-fits : (e : Entry) (latest : Latest) → request_verdict s e latest out reps ≡ Append → (s.op.0 < s.setup.room) × (sends_of s ≤ out)
  append-fits e latest p = subst Fits p (fits e latest)

-- what is answered again is the reply that the table keeps of this very number
module _ (s : Replica) (e : Entry) (out reps : ℕ) where
  abbrev Held : Latest → RequestVerdict → Type 0
  Held latest Nothing = Unit {0}
  Held latest (Resend o) = latest ≡ Row.Answered e.request o
  Held latest (Refuse k) = Unit {0}
  Held latest Append = Unit {0}

  new-held : (latest : Latest) → Held latest (new_verdict s out)
  unfolding new_verdict
  new-held latest = split (Held latest) _ _ _ (λ _. tt) (λ _. split (Held latest) _ _ _ (λ _. tt) (λ _. tt))

  known-held : (latest : Latest) → is_new latest e.request ≡ false → Held latest (known_verdict e latest reps)
  unfolding known_verdict again_verdict is_new
  known-held Row.Nothing n = tt
  known-held (Row.Waiting request) n = tt
  known-held (Row.Answered request o) n =
      let h : Latest = Row.Answered request o in
      split (Held h) (ltb e.request request) _ _ (λ _. tt) λ l.
      split (Held h) (ltb reps 36) _ _ (λ _. tt)
      (λ _. ap (λ (r : ℕ). Row.Answered r o) (omega (arith, ltb-false e.request request l, ltb-false request e.request n)))

  held : (latest : Latest) → Held latest (request_verdict s e latest out reps)
  unfolding request_verdict client_verdict
  held latest =
      split (Held latest) _ _ _ (λ _. tt) λ _.
      split (Held latest) _ _ _ (λ _. tt) λ _.
      split (Held latest) (is_new latest e.request) _ _ (λ _. new-held latest) (known-held latest)

  pub resend-held : (latest : Latest) {o : Outcome} → request_verdict s e latest out reps ≡ Resend o → latest ≡ Row.Answered e.request o
  resend-held latest p = subst (Held latest) p (held latest)

-- resend
pub resends : (s : Replica) (e : Entry) (o : Outcome) (reps r : List ℕ) (a : Returned) (w : ℕ)
    → Wrote (reply s.view e.client e.request o.code o.total) reps r w → a ≡ completed s 0 w false
    → answered a r ≡ resent s e o reps
unfolding resent reply_to
resends s e o reps r a w q p =
    let k : w ≡ 36 = q.count ∙ reply-length s.view e o in
    rw (p, q.bytes, k)

-- accept
module _ (s : Replica) (log acks : List ℕ) (h : Ready s (length log) (length acks)) where
  -- what book::append asks
  pub append-asks : s.op.0 < s.setup.room → (s.op.0 < 4096) × (entry_place (s.op.0 + 1) ≤ length log)
  append-asks l =
      let z = sized s.setup h.sized in
      (omega (arith, l, z.room-high), entry-room {i = s.op.0} s.setup.room (omega (arith, place_is s.setup.room, h.log-long)) l)

  -- what config::insert asks
  pub own-bit : s.setup.id < 8
  own-bit =
      let z = sized s.setup h.sized in
      omega (arith, z.own, z.seven)

  pub accepts : (e : Entry) (out l o : List ℕ) (i b w : ℕ) (t : Replica) (a : Returned) → l ≡ with_entries s.op.0 (encode_entry e) log
      → i ≡ ack_place s.op.0 → b ≡ with_member 0 s.setup.id
      → Wrote (to_others s.setup.n s.setup.id (prepare_of s e) (take (32 * (size_of (prepare_of s e)).entries) l)) out o w
      → t ≡ with_log s (next_op s) s.commit → a ≡ completed t w 0 false
      → took a l (set acks i b) o ≡ accepted s e log acks out
  unfolding accepted size_of
  accepts e out l o i b w t a p z q x y c =
      let k : w ≡ sends_of s = x.count ∙ prepare-long s.setup h.sized s.view (next_op s) s.commit e in
      rw (c, p, z, q, y, k, x.bytes)

-- on_request
module _ (s : Replica) (e : Entry) (latest : Latest) (log acks out reps : List ℕ) where
  pub nothing : (a : Returned) → request_verdict s e latest (length out) (length reps) ≡ Nothing → a ≡ quiet s
      → served a log acks out reps ≡ request_step s e latest log acks out reps
  unfolding request_step by_call
  nothing a v p = rw (v, p)

  pub answers : (a : Returned) (r : List ℕ) (o : Outcome) → request_verdict s e latest (length out) (length reps) ≡ Resend o
      → answered a r ≡ resent s e o reps → served a log acks out r ≡ request_step s e latest log acks out reps
  unfolding request_step by_call
  answers a r o v p = rw v (ap (λ (d : Answered). served d.answer log acks out d.reps) p)

  pub refuses : (a : Returned) (k : Refusal) → request_verdict s e latest (length out) (length reps) ≡ Refuse k → a ≡ refusal k s
      → served a log acks out reps ≡ request_step s e latest log acks out reps
  unfolding request_step by_call
  refuses a k v p = rw (v, p)

  pub takes : (a : Returned) (l k o : List ℕ) → request_verdict s e latest (length out) (length reps) ≡ Append
      → took a l k o ≡ accepted s e log acks out → served a l k o reps ≡ request_step s e latest log acks out reps
  unfolding request_step by_call
  takes a l k o v p = rw v (ap (λ (d : Took). served d.answer d.log d.acks d.out reps) p)
