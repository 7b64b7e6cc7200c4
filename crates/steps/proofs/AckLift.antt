-- A state that commits up to an op and then acknowledges its op number, lifted to the model: the end of on_prepare, on_new_state and
-- on_start_view.
--     committed-reads       what is left of commit_up_to
--     ok-long, acked-did    the PrepareOk, and the step where it fits
--     ack-shown             the step, refusal 9 included
-- Assumes nothing.
use Prim.Native.Nat.{ℕ, ◌≤◌}
use native.Mathlib.Omega.{arith}
use mathlib.Core.Path.{◌≡◌, refl, sym, ap, ◌∙◌, subst}
use mathlib.Core.Bool.{Bool, false}
use mathlib.Core.List.{List, []}
use lib.Dec.{ltb}
use lib.ListN.{length}
use borrow.Author.Tests.{le-ltb}
use Rattle.numbers.specs.Words.{when◌then◌else◌}
use Rattle.numbers.specs.Numbers.{over, Bytes}
use Rattle.numbers.specs.declared.Op.{Op}
use Rattle.numbers.proofs.WordLaws.{if-false, split₂}
use Rattle.numbers.proofs.RunLaws.{over-nil}
use Rattle.numbers.proofs.CellLaws.{cells-length}
use Rattle.numbers.specs.Cells.{packed}
use Rattle.entries.specs.Entries.{entry_of}
use Rattle.entries.specs.declared.Entry.{Entry}
use Rattle.config.specs.Setup.{primary_of}
use Rattle.frames.specs.declared.Message.TheVariants.{PrepareOk}
use Rattle.writers.specs.Writers.{encode, size_of, length_of}
use Rattle.writers.proofs.WriterLaws.{encode-length}
use Rattle.state.specs.Answers.{refusal, completed}
use Rattle.state.specs.declared.Replica.{Replica}
use Rattle.book.specs.Memory as Memory
use Rattle.steps.specs.Steps.{Sound, Left, left, committed_to, settled, prepare_ok_of, committed_and_acked}
use Rattle.model.specs.State.{view_of, op_number, ClientEntry, Book, State, Answer, set_book, op_of}
use Rattle.model.specs.State.Answer.{refused, done}
use Rattle.model.specs.Book.{commit_up_to}
use Rattle.model.specs.Sending.{messages_out, replies_out, primary, to_primary, send_prepare_ok}
use Rattle.model.specs.Normal.{committed}
use Rattle.layout.specs.Layout.{LentRuns, book_of, store_of, model_of}
use Rattle.model.specs.Steps.{fitted}
use Rattle.layout.specs.Shown.{Given, Grew, Did, Shown}
use Rattle.model.proofs.BookLaws.{commit_all-log}
use Rattle.layout.proofs.BookLift.{settle-lift}
use Rattle.steps.proofs.StepLift.{of_left, book_runs, one-message}
use Rattle.frames.specs.declared.Refusal.TheVariants.{NoRoomForMessages, NoRoomForReplies}

-- the lent runs with other log, results and totals
abbrev pub with_runs : LentRuns → Memory.Runs → LentRuns
with_runs x y = record { log = y.log; results = y.money.results; totals = y.money.totals; acks = x.acks; stored = x.stored }

module _ (c : Given) (t : Replica) (x : Memory.Runs) (table : List ClientEntry) (applied : List Entry) (k : Op) (installed : Bool) (b : Book)
    (same : t.setup ≡ c.state.setup) (sound : Sound t x) (bytes : Bytes x.money.totals) (le : k.0 ≤ t.op.0) where
  abbrev before : State
  before = model_of t (with_runs c.runs x) table applied

  abbrev next : State
  next = committed before k.0

  abbrev u : Replica
  u = committed_to t k x

  -- what commit_up_to leaves
  pub committed-reads : model_of u (with_runs c.runs (settled t k x)) next.book.table next.book.applied ≡ next
  unfolding model_of store_of committed set_book settled
  committed-reads =
      ap (set_book (model_of t (with_runs c.runs x) table applied))
      (settle-lift t.setup.members x.log t.commit.0 x.money bytes (omega (arith, sound.totals-long)) t.op.0 t.takings table applied k.0
      (omega (arith, sound.results-long, sound.op_le)) sound.commit-le le)

  op-is : op_of next ≡ t.op.0
  unfolding op_of committed set_book model_of book_of commit_up_to
  op-is = ap length (commit_all-log _ _) ∙ cells-length 32 entry_of t.op.0 x.log

  bytes-are : messages_out (send_prepare_ok c.state.setup next) ≡ prepare_ok_of u
  unfolding send_prepare_ok to_primary primary prepare_ok_of committed set_book model_of
  bytes-are =
      one-message (primary_of c.state.setup.n (view_of next.place.view)) (PrepareOk (view_of next.place.view) (op_number (op_of next)) c.state.setup.id)
      ∙ λ i. encode (primary_of (sym same i).n t.view) (PrepareOk t.view (op_number (op-is i)) (sym same i).id) []

  long : length (prepare_ok_of u) ≡ 16
  unfolding prepare_ok_of size_of length_of
  long = encode-length _ (PrepareOk u.view u.op u.setup.id) [] refl

  -- what the step leaves where its message fits
  abbrev leaves : Left
  leaves = left (completed u 16 0 installed) (settled t k x) (over (prepare_ok_of u) c.out)

  did : Grew b installed (commit_up_to before.book k.0) → Did c (of_left c leaves) b next (send_prepare_ok c.state.setup next) []
  unfolding replies_out packed committed set_book settled
  did grew =
      record {
        code = refl;
        setup = same;
        state = committed-reads;
        grew = grew;
        messages = sym (ap length bytes-are ∙ long);
        out = ap (λ (w : List ℕ). over w c.out) (sym bytes-are);
        replies = refl;
        reps = over-nil c.reps;
      }

  pub ok-long : length (messages_out (send_prepare_ok c.state.setup next)) ≡ 16
  ok-long = ap length bytes-are ∙ long

  pub acked-did : Grew b installed (commit_up_to before.book k.0) → ltb (length c.out) 16 ≡ false
      → Did c (of_left c (committed_and_acked c.state t k installed x c.out)) b next (send_prepare_ok c.state.setup next) []
  unfolding committed_and_acked
  acked-did grew f =
      subst (λ (d : Left). Did c (of_left c d) b next (send_prepare_ok c.state.setup next) []) (sym (if-false _ _ leaves f)) (did grew)

  -- The step, where nothing was stored before it but what refusal 9 leaves alone.
  abbrev pub acknowledged : Left
  acknowledged =
      when ltb (length c.out) 16 then left (refusal NoRoomForMessages c.state) (book_runs c.runs) c.out else committed_and_acked c.state t k installed x c.out

  pub ack-shown : Grew b installed (commit_up_to before.book k.0)
      → Shown c (of_left c acknowledged) b (fitted (length c.out) (length c.reps) (done next (send_prepare_ok c.state.setup next) []))
  unfolding fitted replies_out packed
  ack-shown grew =
      split₂ (λ (d : Left) (a : Answer). Shown c (of_left c d) b a) _ _ _ _ _ _ (ap (λ (n : ℕ). ltb (length c.out) n) (sym ok-long))
      (λ _. refl)
      (λ f.
      subst (λ (a : Answer). Shown c (of_left c (committed_and_acked c.state t k installed x c.out)) b a)
      (sym (if-false _ (refused NoRoomForReplies) (done next (send_prepare_ok c.state.setup next) []) (le-ltb (length c.reps) 0 (omega arith))))
      (acked-did grew f))
