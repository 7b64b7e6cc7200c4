-- The end of on_recovery_response, lifted to the model: Normal in view v with the log of o entries in `part`, committed up to g. Assumes nothing.
use Prim.Native.Nat.{ℕ, ◌*◌, ◌≤◌}
use native.Mathlib.Nat.{zero-add}
use native.Mathlib.Omega.{arith}
use mathlib.Core.Path.{◌≡◌, refl, sym, ap, ◌∙◌, subst}
use mathlib.Core.Bool.{true, false}
use mathlib.Core.List.{List, []}
use lib.ListN.{length}
use Rattle.numbers.specs.Words.{when◌then◌else◌}
use Rattle.numbers.specs.Numbers.{over, Bytes}
use Rattle.numbers.specs.Cells.{packed}
use Rattle.numbers.specs.declared.View.{View}
use Rattle.numbers.specs.declared.Op.{Op}
use Rattle.entries.specs.Entries.{entries}
use Rattle.entries.specs.declared.Entry.{Entry}
use Rattle.config.specs.declared.Setup.{Setup}
use Rattle.config.proofs.SetupLaws.{sized}
use Rattle.frames.specs.declared.Status.TheVariants.{Normal}
use Rattle.state.specs.State.{with_log, normal_in}
use Rattle.state.specs.Statuses.{is_recovering}
use Rattle.state.specs.Answers.{completed}
use Rattle.state.specs.declared.Replica.{Replica}
use Rattle.book.specs.Memory as Memory
use Rattle.steps.specs.Steps.{Sound, committed_to, settled}
use Rattle.view_change.specs.StartView.{LogPassed, with_log_of}
use Rattle.view_change.proofs.StartViewLaws.{part-fits, joins-sound}
use Rattle.model.specs.State.{ClientEntry, Book, State, set_book, set_store}
use Rattle.model.specs.Book.{commit_up_to, install}
use Rattle.model.specs.Sending.{messages_out, replies_out}
use Rattle.model.specs.Normal.{committed}
use Rattle.model.specs.ViewChange.{no_reports, cleared_store, enter_normal}
use Rattle.model.specs.Recovery.{no_responses, forgotten, recovered}
use Rattle.layout.specs.Layout.{store_of, book_of, model_of}
use Rattle.layout.specs.Shown.{Given, Step, Grew, Did}
use Rattle.layout.specs.Shown.Grew.{anew}
use Rattle.layout.proofs.BookLift.{install-lift}
use Rattle.steps.proofs.StepLift.{book_runs, reports-cleared}
use Rattle.steps.proofs.AckLift.{with_runs, committed-reads}
use Rattle.steps.proofs.SendLift.{told-did}

module _ (c : Given) (table : List ClientEntry) (applied : List Entry) (sound : Sound c.state (book_runs c.runs)) (totals : Bytes c.runs.totals)
    (v : View) (o g : Op) (part : List ℕ) (numbers : LogPassed c.state o g) (l : c.state.commit.0 ≤ o.0) (long : 32 * o.0 ≤ length part) where
  abbrev s : Replica
  s = c.state

  abbrev u : Setup
  u = s.setup

  abbrev was : State
  was = model_of s c.runs table applied

  abbrev x : Memory.Runs
  x = book_runs c.runs

  abbrev y : Memory.Runs
  y = with_log_of o part x

  -- the state before it commits
  abbrev r : Replica
  r = with_log (normal_in s v) o s.commit

  abbrev es : List Entry
  es = entries o.0 part

  abbrev after : State
  after = recovered u was v.0 (record { commit = g.0; log = es })

  abbrev new-book : Book
  new-book = install was.book es

  new-book-is : book_of u.members o.0 s.commit.0 y.log y.money s.takings new-book.table applied ≡ new-book
  unfolding model_of
  new-book-is =
      let fits = part-fits s v o g part c.runs.log c.runs.results c.runs.totals c.runs.acks c.out sound numbers l long in
      ap (λ (n : ℕ). book_of u.members n s.commit.0 y.log y.money s.takings new-book.table applied) (sym (zero-add o.0))
      ∙ install-lift u.members s.op.0 s.commit.0 c.runs.log x.money s.takings table applied 0 o.0 part (omega arith) fits.1.0 long

  -- neither responses nor reports
  new-store : store_of r c.runs.stored ≡ cleared_store u (forgotten u was)
  unfolding model_of store_of cleared_store forgotten set_store no_reports no_responses is_recovering when◌then◌else◌
  new-store = rw (reports-cleared u c.runs.stored (sized u sound.sized).seven)

  new-reads : model_of r (with_runs c.runs y) new-book.table applied ≡ enter_normal u (forgotten u was) v.0 new-book was.votes.acks
  unfolding model_of enter_normal forgotten set_store
  new-reads =
      λ i. record {
        place = record { status = Normal; view = v.0; last_normal = v.0; catching_up = false };
        book = new-book-is i;
        votes = record { acks = c.runs.acks; starts = 0; sent = false };
        store = new-store i;
        clock = r.clock;
      }

  abbrev next : State
  next = committed (model_of r (with_runs c.runs y) new-book.table applied) g.0

  next-is : next ≡ after
  unfolding committed recovered enter_normal set_book
  next-is = ap (λ (m : State). set_book m (commit_up_to m.book g.0)) new-reads

  new-grew : Grew was.book true next.book
  unfolding model_of committed set_book
  new-grew = anew es g.0 refl (ap (λ (q : Book). commit_up_to q g.0) new-book-is)

  -- what the step leaves
  abbrev pub leaves : Step
  leaves =
      record {
        answer = completed (committed_to (with_log (normal_in c.state v) o c.state.commit) g (with_log_of o part (book_runs c.runs))) 0 0 true;
        runs =
            with_runs c.runs
            (settled (with_log (normal_in c.state v) o c.state.commit) g (with_log_of o part (book_runs c.runs)));
        out = c.out;
        reps = c.reps;
      }

  pub recovered-did : Did c leaves (model_of c.state c.runs table applied).book
      (recovered c.state.setup (model_of c.state c.runs table applied) v.0 (record { commit = g.0; log = entries o.0 part })) [] []
  unfolding over messages_out replies_out packed
  recovered-did =
      let fits = joins-sound s v o g part c.runs.log c.runs.results c.runs.totals c.runs.acks c.out
      sound numbers l long r y.log refl refl in
      subst (λ (m : State). Did c leaves was.book m [] []) next-is
      (told-did c (committed_to r g y) (with_runs c.runs (settled r g y)) true was.book next refl
      (committed-reads c r y new-book.table applied g true was.book refl fits.0 totals fits.1)
      new-grew [] [] [] [] 0 0 refl refl refl refl)
