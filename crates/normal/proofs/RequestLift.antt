-- on_request, lifted to the model. A number above the client's latest rises by the table, so that the model's refusal 6 never comes.
-- Assumes nothing.
use Prim.Native.Nat.{ℕ, ◌+◌, ◌≤◌, ◌<◌}
use native.Mathlib.Nat.{zero-sub}
use native.Mathlib.Omega.{arith}
use mathlib.Core.Path.{◌≡◌, refl, sym, ap, ◌∙◌, subst}
use mathlib.Core.Bool.{Bool, true, false, not, false≢true}
use mathlib.Core.List.{List, [], ◌∷◌, ◌++◌, append-nil}
use mathlib.Core.Option.{Option, none, some}
use lib.Dec.{ltb, leb, eqb}
use lib.ListN.{length, set}
use borrow.Author.Tests.{lt-ltb, le-ltb, lt-leb, ltb-true, ltb-false, leb-false, eqb-true, eqb-false}
use Rattle.numbers.specs.Words.{when◌then◌else◌, ◌and◌}
use Rattle.numbers.specs.Numbers.{over}
use Rattle.numbers.specs.Cells.{packed}
use Rattle.numbers.proofs.WordLaws.{if-false, split, split₂, and_both}
use Rattle.numbers.proofs.CellLaws.{cells-length}
use Rattle.entries.specs.Entries.{entry_of, entries, EntryFits}
use Rattle.entries.specs.Places.{entry_place}
use Rattle.entries.specs.Rising.{rising}
use Rattle.entries.specs.declared.Entry.{Entry}
use Rattle.entries.proofs.PlaceLaws.{place_is, place_mono}
use Rattle.fees.specs.declared.Outcome.{Outcome}
use Rattle.frames.specs.declared.Message.TheVariants.{Prepare}
use Rattle.writers.specs.Writers as W
use Rattle.client_table.specs.Latest.{latest_by, is_new}
use Rattle.client_table.specs.declared.Latest.{Latest}
use Rattle.book.specs.Runs.{reply_to}
use Rattle.book.specs.Memory.{money}
use Rattle.book.proofs.RunLaws.{reply-length}
use Rattle.state.specs.State.{leads, with_log}
use Rattle.state.specs.declared.Replica.{Replica}
use Rattle.normal.specs.declared.request.RequestVerdict.{RequestVerdict}
use Rattle.normal.specs.declared.request.RequestVerdict.TheVariants.{Nothing, Resend, Refuse, Append}
use Rattle.normal.specs.Request as R
use Rattle.normal.specs.Request.{Ready, Served, sends_of, again_verdict, known_verdict, new_verdict, client_verdict, request_verdict, next_op, prepare_of, resent, by_call, request_step}
use Rattle.normal.proofs.RequestLaws.{older, new-number, known-number}
use Rattle.normal.proofs.SendLaws.{prepare-long}
use Rattle.model.specs.State.{op_number, ClientEntry, Book, State, Reply, Answer, ignored, set_book, set_votes, set_acks, op_of}
use Rattle.model.specs.State.Answer.{refused, done}
use Rattle.model.specs.Book.{Seen, find, append, append_all, commit_all, due_entries, commit_up_to}
use Rattle.model.specs.Sending.{reply_bytes, messages_out, replies_out, send_prepare}
use Rattle.model.specs.Sending as Sending
use Rattle.model.specs.ViewChange.{own_vote}
use Rattle.model.specs.Normal.{resend, accepted, on_request}
use Rattle.layout.specs.Layout.{book_of, store_of, model_of}
use Rattle.model.specs.Steps.{fitted}
use Rattle.layout.specs.Shown.{Given, Step, Grew, Did, Shown, Tells}
use Rattle.layout.specs.Shown.Grew.{more}
use Rattle.layout.proofs.BookLift.{append-lift}
use Rattle.model.proofs.LatestLaws as L
use Rattle.model.proofs.LatestLaws.{latest-lift}
use Rattle.steps.proofs.StepLift.{no-growth}
use Rattle.steps.proofs.SendLift.{bare-bytes, still-reads, idle-shown, told-did, sends-only, replies-only}
use Rattle.frames.specs.declared.Refusal.TheVariants.{PastRoom, NotRising, NoRoomForMessages, NoRoomForReplies}
use Rattle.frames.specs.declared.Refusal.{Refusal}

-- what a step that changes log and acks leaves, and that may send and reply
abbrev pub of_served : Given → Served → Step
of_served c d =
    record {
      answer = d.answer;
      runs =
          record {
            log = d.log;
            results = c.runs.results;
            totals = c.runs.totals;
            acks = d.acks;
            stored = c.runs.stored;
          };
      out = d.out;
      reps = d.reps;
    }

-- a Request in a state that calls left
pub record Asked (c : Given) (table : List ClientEntry) (e : Entry) (latest : Latest) : Type 0 where
  pub ready : Ready c.state (length c.runs.log) (length c.runs.acks)
  pub fits : EntryFits e
  pub rises : rising (entries c.state.op.0 c.runs.log) ≡ true
  pub known : L.Latest table (entries c.state.op.0 c.runs.log)
  pub tells : Tells table e.client latest

-- two tests one after the other, and joined
outside : {A : Type 0} (a b : Bool) (x y : A) → not (a and b) ≡ true → (when not a then x else when not b then x else y) ≡ x
unfolding ◌and◌ when◌then◌else◌
outside false b x y e = refl
outside true false x y e = refl
outside true true x y e = absurd (false≢true e)

inside : {A : Type 0} (a b : Bool) (x y : A) → not (a and b) ≡ false → (when not a then x else when not b then x else y) ≡ y
unfolding ◌and◌ when◌then◌else◌
inside false b x y e = absurd (false≢true (sym e))
inside true false x y e = absurd (false≢true (sym e))
inside true true x y e = refl

-- neither older than the row's number nor equal to it
past : (there : Bool) (x y : ℕ) → (there and ltb x y) ≡ false → (there and eqb x y) ≡ false → there ≡ true → y < x
unfolding ◌and◌
past false x y f g p = absurd (false≢true p)
past true x y f g p = omega (arith, ltb-false x y f, eqb-false x y g)

-- a number above the row's
above : (there : Bool) (x y : ℕ) → (there ≡ true → y < x) → (there and leb x y) ≡ false
unfolding ◌and◌
above false x y h = refl
above true x y h = lt-leb x y (h refl)

-- what the latest number calls for, by the reply that is kept
abbrev answer_to : Option Outcome → (room : ℕ) → RequestVerdict
answer_to none room = Nothing
answer_to (some o) room = when ltb room 36 then Refuse NoRoomForReplies else Resend o

-- the verdict by what the table has of the client
module _ (s : Replica) (e : Entry) (r : ℕ) (out reps : ℕ) where
  abbrev verdict_by : Bool → Option Outcome → RequestVerdict
  verdict_by there k = client_verdict s e (latest_by there r k) out reps

  older-verdict : (there : Bool) (k : Option Outcome) → there ≡ true → e.request < r → Nothing ≡ verdict_by there k
  unfolding known_verdict is_new
  older-verdict false k p h = absurd (false≢true p)
  older-verdict true none p h = known-number s e (latest_by true r none) out reps Nothing (le-ltb r e.request (omega (arith, h))) refl
  older-verdict true (some o) p h =
      known-number s e (latest_by true r (some o)) out reps Nothing (le-ltb r e.request (omega (arith, h))) (older e r o reps h)

  same-verdict : (there : Bool) (k : Option Outcome) → there ≡ true → e.request ≡ r → answer_to k reps ≡ verdict_by there k
  unfolding known_verdict again_verdict is_new
  same-verdict false k p h = absurd (false≢true p)
  same-verdict true none p h = known-number s e (latest_by true r none) out reps Nothing (le-ltb r e.request (omega (arith, h))) refl
  same-verdict true (some o) p h =
      known-number s e (latest_by true r (some o)) out reps _ (le-ltb r e.request (omega (arith, h)))
      (sym (if-false (ltb e.request r) Nothing _ (le-ltb e.request r (omega (arith, h)))))

  new-verdict : (there : Bool) (k : Option Outcome) → (there ≡ true → r < e.request) → new_verdict s out ≡ verdict_by there k
  unfolding is_new
  new-verdict false k h = new-number s e (latest_by false r k) out reps _ refl refl
  new-verdict true none h = new-number s e (latest_by true r none) out reps _ (lt-ltb r e.request (h refl)) refl
  new-verdict true (some o) h = new-number s e (latest_by true r (some o)) out reps _ (lt-ltb r e.request (h refl)) refl

-- a book that only grew
grown : (b : Book) (e : Entry) → Grew b false (append b e)
unfolding commit_up_to due_entries commit_all append_all append
grown b e = more (e ∷ []) 0 refl (rw (zero-sub b.commit))

module _ (c : Given) (table : List ClientEntry) (applied : List Entry) (e : Entry) (latest : Latest) (asked : Asked c table e latest) where
  abbrev s : Replica
  s = c.state

  abbrev now : State
  now = model_of s c.runs table applied

  abbrev Goal : Served → Answer → Type 0
  Goal d a = Shown c (of_served c d) now.book a

  abbrev fit : Answer → Answer
  fit a = fitted (length c.out) (length c.reps) a

  abbrev by : RequestVerdict → Served
  by z = by_call z s e c.runs.log c.runs.acks c.out c.reps

  abbrev Agree : RequestVerdict → Answer → Type 0
  Agree z a = Goal (by z) (fit a)

  nothing-shown : Agree Nothing (ignored now)
  unfolding by_call
  nothing-shown = idle-shown c table applied

  refuse-shown : (k : Refusal) → Agree (Refuse k) (refused k)
  unfolding by_call fitted
  refuse-shown k = refl

  refuse-fitted : (k : Refusal) → Goal (by (Refuse k)) (refused k)
  unfolding by_call
  refuse-fitted k = refl

  -- ---- the reply again

  abbrev again-with : Outcome → Reply
  again-with o = record { view = now.place.view; client = e.client; request = e.request; result = o }

  reply-bytes : (o : Outcome) → replies_out (again-with o ∷ []) ≡ reply_to s.view e o
  unfolding replies_out packed reply_bytes reply_to model_of
  reply-bytes o = append-nil _

  reply-long : (o : Outcome) → length (replies_out (again-with o ∷ [])) ≡ 36
  reply-long o = ap length (reply-bytes o) ∙ reply-length s.view e o

  resend-did : (o : Outcome) → Did c (of_served c (by (Resend o))) now.book now [] (again-with o ∷ [])
  unfolding by_call resent messages_out packed over
  resend-did o =
      told-did c s c.runs false now.book now refl (still-reads c table applied) (no-growth now.book) [] (again-with o ∷ []) []
      (reply_to s.view e o) 0 36 refl refl (reply-bytes o) (reply-length s.view e o)

  resend-shown : (o : Outcome) → Agree (when ltb (length c.reps) 36 then Refuse NoRoomForReplies else Resend o) (done now [] (again-with o ∷ []))
  resend-shown o =
      subst (Goal (by (when ltb (length c.reps) 36 then Refuse NoRoomForReplies else Resend o)))
      (sym (replies-only (length c.out) (length c.reps) now (again-with o ∷ [])))
      (split₂ (λ (z : RequestVerdict) (a : Answer). Goal (by z) a) _ _ _ _ _ _ (ap (ltb (length c.reps)) (sym (reply-long o)))
      (λ _. refuse-fitted NoRoomForReplies) (λ _. resend-did o))

  kept-shown : (k : Option Outcome) → Agree (answer_to k (length c.reps)) (resend now e k)
  unfolding resend
  kept-shown none = nothing-shown
  kept-shown (some o) = resend-shown o

  -- ---- a new number

  abbrev next : State
  next = accepted s.setup now e

  op-is : op_of now ≡ s.op.0
  unfolding op_of model_of book_of
  op-is = cells-length 32 entry_of s.op.0 c.runs.log

  prepare-bytes : messages_out (send_prepare s.setup now (op_of now + 1) e) ≡ W.to_others s.setup.n s.setup.id (prepare_of s e) []
  unfolding send_prepare model_of book_of
  prepare-bytes =
      bare-bytes s.setup (Prepare s.view (op_number (op_of now + 1)) s.commit e)
      ∙ λ i. W.to_others s.setup.n s.setup.id (Prepare s.view (op_number (op-is i + 1)) s.commit e) []

  prepares-long : length (W.to_others s.setup.n s.setup.id (prepare_of s e) []) ≡ sends_of s
  prepares-long = prepare-long s.setup asked.ready.sized s.view (next_op s) s.commit e

  module _ (room : s.op.0 < s.setup.room) where
    place : entry_place (s.op.0 + 1) ≤ length c.runs.log
    place =
        omega (arith, asked.ready.log-long, place_is s.setup.room, place_mono (s.op.0 + 1) s.setup.room (omega (arith, room)))

    reads : model_of (with_log s (next_op s) s.commit) (of_served c (by Append)).runs next.book.table next.book.applied ≡ next
    unfolding by_call R.accepted model_of store_of accepted set_acks set_votes set_book own_vote append book_of
    reads =
        λ i. set_acks
        (set_book now
        (append-lift s.setup.members s.op.0 s.commit.0 c.runs.log (money c.runs.results c.runs.totals) s.takings table applied e
        asked.fits place i))
        (set c.runs.acks (sym op-is i) (own_vote s.setup))

    grew : Grew now.book false next.book
    unfolding accepted set_acks set_votes set_book
    grew = grown now.book e

    append-did : Did c (of_served c (by Append)) now.book next (send_prepare s.setup now (op_of now + 1) e) []
    unfolding by_call R.accepted replies_out packed over
    append-did =
        told-did c (with_log s (next_op s) s.commit) (of_served c (by Append)).runs false now.book next refl reads grew
        (send_prepare s.setup now (op_of now + 1) e) [] (W.to_others s.setup.n s.setup.id (prepare_of s e) []) [] (sends_of s) 0
        prepare-bytes prepares-long refl refl

    append-shown : Agree (when ltb (length c.out) (sends_of s) then Refuse NoRoomForMessages else Append)
        (done next (send_prepare s.setup now (op_of now + 1) e) [])
    append-shown =
        subst (Goal (by (when ltb (length c.out) (sends_of s) then Refuse NoRoomForMessages else Append)))
        (sym (sends-only (length c.out) (length c.reps) next (send_prepare s.setup now (op_of now + 1) e)))
        (split₂ (λ (z : RequestVerdict) (a : Answer). Goal (by z) a) _ _ _ _ _ _
        (ap (ltb (length c.out)) (sym (ap length prepare-bytes ∙ prepares-long)))
        (λ _. refuse-fitted NoRoomForMessages) (λ _. append-did))

  abbrev seen : Seen
  seen = find table e.client

  -- what the model does with a new number
  abbrev taken : Answer
  taken =
      when leb s.setup.room (op_of now) then refused PastRoom else
      when not (rising (now.book.log ++ (e ∷ []))) then refused NotRising else
      done next (send_prepare s.setup now (op_of now + 1) e) []

  risen : (seen.there ≡ true → seen.request < e.request) → rising (now.book.log ++ (e ∷ [])) ≡ true
  unfolding model_of book_of
  risen h =
      latest-lift e table (entries s.op.0 c.runs.log) asked.known asked.rises
      ∙ ap not (above seen.there e.request seen.request h)

  new-shown : (seen.there ≡ true → seen.request < e.request) → Agree (new_verdict s (length c.out)) taken
  unfolding new_verdict
  new-shown h =
      split₂ Agree _ _ _ _ _ _ (ap (leb s.setup.room) (sym op-is)) (λ _. refuse-shown PastRoom) λ l.
      subst (Agree (when ltb (length c.out) (sends_of s) then Refuse NoRoomForMessages else Append)) (sym (if-false _ _ _ (ap not (risen h))))
      (append-shown (leb-false _ _ l))

  -- ---- by the client's row

  abbrev verdict : RequestVerdict
  verdict = client_verdict s e latest (length c.out) (length c.reps)

  -- the same by what the table has
  told : (z : RequestVerdict) (a : Answer) → z ≡ verdict_by s e seen.request (length c.out) (length c.reps) seen.there seen.kept
      → Agree z a → Agree verdict a
  told z a p =
      subst (λ (y : RequestVerdict). Agree y a)
      (p ∙ ap (λ (l : Latest). client_verdict s e l (length c.out) (length c.reps)) (sym asked.tells))

  old-shown : seen.there ≡ true → e.request < seen.request → Agree verdict (ignored now)
  old-shown p h = told Nothing _ (older-verdict s e seen.request _ _ seen.there seen.kept p h) nothing-shown

  same-shown : seen.there ≡ true → e.request ≡ seen.request → Agree verdict (resend now e seen.kept)
  same-shown p h =
      told _ _ (same-verdict s e seen.request (length c.out) (length c.reps) seen.there seen.kept p h) (kept-shown seen.kept)

  client-shown : Agree verdict
      (when seen.there and ltb e.request seen.request then ignored now else
      when seen.there and eqb e.request seen.request then resend now e seen.kept else
      taken)
  client-shown =
      split (Agree verdict) _ _ _ (λ t. let p = and_both _ _ t in old-shown p.0 (ltb-true _ _ p.1)) λ f.
      split (Agree verdict) _ _ _ (λ t. let p = and_both _ _ t in same-shown p.0 (eqb-true _ _ p.1)) λ g.
      let h = past seen.there e.request seen.request f g in
      told _ taken (new-verdict s e seen.request (length c.out) (length c.reps) seen.there seen.kept h) (new-shown h)

  pub request-shown : Shown c (of_served c (request_step s e latest c.runs.log c.runs.acks c.out c.reps)) now.book
      (fitted (length c.out) (length c.reps) (on_request s.setup now e))
  unfolding request_step request_verdict on_request Sending.is_primary Sending.primary leads model_of book_of
  request-shown =
      split (Agree (request_verdict s e latest (length c.out) (length c.reps))) _ _ _
      (λ t. subst (λ (z : RequestVerdict). Agree z (ignored now)) (sym (outside _ _ _ _ t)) nothing-shown)
      (λ f.
      subst
      (λ (z : RequestVerdict). Agree z
      (when seen.there and ltb e.request seen.request then ignored now else
      when seen.there and eqb e.request seen.request then resend now e seen.kept else
      taken))
      (sym (inside _ _ _ _ f)) client-shown)
