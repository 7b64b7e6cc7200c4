-- A request whose entry is applied and is its client's latest is answered when it is asked again of a Normal primary.
--     result-at        what an entry gave, on the totals that those before it had left
--     reply-length     a reply has 36 bytes
--     safe-answers     a safe state answers so
--     answers-again    and so does every state that calls lead to
-- Assumes nothing.
use Rattle.std.specs.Prelude.{Result, Ok, Err}
use Prim.Native.Nat.{ℕ, zero, suc, ◌≤◌, ◌<◌}
use native.Mathlib.Omega.{arith}
use mathlib.Core.Path.{◌≡◌, refl, sym, ap, ◌∙◌}
use mathlib.Core.Bool.{true, not}
use mathlib.Core.List.{List, [], ◌∷◌}
use mathlib.Core.Option.{some}
use lib.ListN.{length, take, get_or}
use lib.Seq.{take-take, get_or-take, length-take-le}
use borrow.Author.Tests.{lt-ltb, le-ltb, eq-eqb}
use Rattle.numbers.specs.Words.{◌and◌}
use Rattle.numbers.specs.Numbers.{big, within}
use Rattle.numbers.specs.Cells.{packed}
use Rattle.numbers.proofs.WordLaws.{if-true, if-false, and-true, and-false}
use Rattle.entries.specs.declared.Entry.{Entry}
use Rattle.config.specs.declared.Setup.{Setup}
use Rattle.fees.specs.declared.Outcome.{Outcome}
use Rattle.frames.specs.Messages.{carried_of}
use Rattle.frames.specs.Refusals.{check_frame}
use Rattle.frames.specs.Looks.{looks_at}
use Rattle.frames.specs.declared.Status.{Status}
use Rattle.frames.specs.declared.Status.TheVariants.{Normal, StateTransfer, ViewChange, Recovering}
use Rattle.frames.specs.declared.Message.TheVariants.{Request}
use Rattle.frames.specs.declared.Refusal.{Refusal}
use Rattle.writers.specs.Writers.{header, reply}
use Rattle.state.specs.Statuses.{is_normal}
use Rattle.model.specs.State.{State, Reply}
use Rattle.model.specs.State.Answer.{done}
use Rattle.model.specs.Book.{outcome, totals_after, through, results_of, Seen, find}
use Rattle.model.specs.Sending.{reply_bytes, messages_out, replies_out, is_primary}
use Rattle.model.specs.Normal.{resend, on_request}
use Rattle.model.specs.Steps.{fitted, numbers_ok, on_message, on_checked, on_frame}
use Rattle.model.proofs.TableOf.{seen_as}
use Rattle.safety.specs.Remembered.{gave_at}
use Rattle.safety.specs.Demand.{Call, answer, run, Created, zeros, Safe}
use Rattle.safety.specs.Again.{AskedAgain, reply_again, AnswersAgain}
use Rattle.safety.proofs.Runs.{demand3}
use Rattle.frames.specs.declared.Message.{Message}

-- ---- what an entry gave

pub result-at : (ts : List ℕ) (es : List Entry) (i : ℕ) (d : Entry) (o : Outcome) → i < length es
    → get_or (results_of ts es) i o ≡ outcome (through ts (take i es)) (get_or es i d)
unfolding results_of through
result-at ts [] i d o h = absurd (omega arith)
result-at ts (e ∷ es) zero d o h = refl
result-at ts (e ∷ es) (suc i) d o h = result-at (totals_after ts e) es i d o (omega arith)

-- ---- the frame is looked at, and the reply has room

looks : (t : Status) (e : Entry) → is_normal t ≡ true → looks_at t (carried_of (Request e)).kind ≡ true
unfolding is_normal looks_at carried_of within ◌and◌
looks Normal e h = refl
looks StateTransfer e h = cc
looks ViewChange e h = cc
looks Recovering e h = cc

pub reply-length : (r : Reply) → length (replies_out (r ∷ [])) ≡ 36
unfolding replies_out packed reply_bytes reply header big
reply-length r = refl

reply-fits : (m : State) (r : Reply) (a b : ℕ) → 36 ≤ b → fitted a b (done m [] (r ∷ [])) ≡ done m [] (r ∷ [])
unfolding fitted messages_out packed
reply-fits m r a b h =
    if-false _ _ _ (le-ltb a 0 (omega arith)) ∙ if-false _ _ _ (le-ltb b (length (replies_out (r ∷ []))) (omega (arith, reply-length r)))

-- ---- a request of the latest number

module _ (u : Setup) (m : State) (e : Entry) (o : Outcome) (p : is_primary u m ≡ true) (n : is_normal m.place.status ≡ true)
    (f : find m.book.table e.client ≡ seen_as e.request (some o)) where
  again : Reply
  again = record { view = m.place.view; client = e.client; request = e.request; result = o }

  there : (find m.book.table e.client).there ≡ true
  there = ap (λ (x : Seen). x.there) f

  number : (find m.book.table e.client).request ≡ e.request
  number = ap (λ (x : Seen). x.request) f

  asks-again : on_request u m e ≡ done m [] (again ∷ [])
  unfolding on_request resend again
  asks-again =
      if-false _ _ _ (ap not (and-true _ _ p n))
      ∙ if-false _ _ _ (and-false (find m.book.table e.client).there _ (le-ltb e.request _ (omega (arith, number))))
      ∙ if-true _ _ _ (and-true _ _ there (eq-eqb e.request _ (sym number)))
      ∙ ap (λ (x : Seen). resend m e x.kept) f

  frame-again : (s : List ℕ) (a b : ℕ) → numbers_ok u m ≡ true → check_frame u s ≡ Ok (Request e) → 36 ≤ b
      → on_frame u m s a b ≡ done m [] (again ∷ [])
  unfolding on_frame on_checked on_message
  frame-again s a b k c h =
      if-false _ _ _ (ap not k)
      ∙ ap (λ (x : Result Message Refusal). fitted a b (on_checked u m s x)) c
      ∙ ap (fitted a b) (if-false _ _ _ (ap not (looks m.place.status e n)) ∙ asks-again)
      ∙ reply-fits m again a b h

-- ---- safe states

module _ (u : Setup) (m : State) (safe : Safe u m) where
  -- the result of the entry at place i
  given : Entry → ℕ → Outcome
  given d i = outcome (through (zeros u) (take i m.book.log)) (get_or m.book.log i d)

  result-given : (d : Entry) (o : Outcome) (i : ℕ) → i < m.book.commit → get_or m.book.results i o ≡ given d i
  unfolding given
  result-given d o i h =
      let k : ℕ = m.book.commit in
      let log : List Entry = m.book.log in
      let l : length (take k log) ≡ k = length-take-le k log safe.commit-le in
      ap (λ (rs : List Outcome). get_or rs i o) (safe.results-are ∙ ap (results_of (zeros u)) safe.applied-is)
      ∙ result-at (zeros u) (take k log) i d o (omega arith)
      ∙ (λ j. outcome (through (zeros u) (take-take i k log (omega arith) j)) (get_or-take k log i d h j))

  -- the reply that is kept for it
  reply-kept : (d : Entry) (o : Outcome) (i : ℕ) → i < m.book.commit → gave_at m.book.results m.book.commit i o ≡ some (given d i)
  unfolding gave_at
  reply-kept d o i h = if-true _ _ _ (lt-ltb i m.book.commit h) ∙ ap some (result-given d o i h)

  found-again : (s : List ℕ) (d : Entry) (i : ℕ) (q : AskedAgain u m s d i)
      → find m.book.table q.asked.client ≡ seen_as q.asked.request (some (given d i))
  found-again s d i q =
      let o : Outcome = given d i in
      ap (find m.book.table) q.client ∙ safe.remembers.clients d o i q.latest
      ∙ (λ j. seen_as (sym q.request j) (reply-kept d o i q.applied j))

  pub safe-answers : AnswersAgain u m
  unfolding answer reply_again given again
  safe-answers s d i a b q h =
      frame-again u m q.asked (given d i) q.primary q.normal (found-again s d i q) s a b safe.never-1 q.passed h
      ∙ (λ j. done m [] (record { view = m.place.view; client = q.client j; request = q.request j; result = given d i } ∷ []))

-- After a creation that was not refused and any calls.
pub answers-again : (u : Setup) (m : State) → Created u m → (cs : List Call) → AnswersAgain u (run u m cs)
answers-again u m from cs = safe-answers u (run u m cs) (demand3 u m from cs []).safe
