-- on_prepare_ok, lifted to the model. Assumes nothing.
use Prim.Native.Nat.{ℕ, ◌-◌, ◌*◌, ◌≤◌}
use native.Mathlib.Omega.{arith}
use mathlib.Core.Path.{◌≡◌, refl, sym, ap, ◌∙◌, subst}
use mathlib.Core.Bool.{Bool, true, false, not, false≢true}
use mathlib.Core.List.{List, [], ◌++◌}
use lib.Dec.{ltb, eqb}
use lib.ListN.{length, get_or, set, drop, replicate, length-replicate}
use borrow.Author.Tests.{le-ltb, lt-ltb, eqb-true, leb-true, leb-false, ltb-false, not-false}
use Rattle.numbers.specs.Words.{when◌then◌else◌, ◌and◌, ◌or◌}
use Rattle.numbers.specs.Numbers.{over, Bytes}
use Rattle.numbers.specs.Cells.{packed}
use Rattle.numbers.specs.declared.View.{View}
use Rattle.numbers.specs.declared.Op.{Op}
use Rattle.numbers.proofs.WordLaws.{if-true, if-false, split, split₂, and_left, or_left, or_right}
use Rattle.numbers.proofs.CellLaws.{cells-length}
use Rattle.entries.specs.Entries.{entry_of}
use Rattle.entries.specs.declared.Entry.{Entry}
use Rattle.config.specs.Replicas.{bit, with_member, count_below, quorum_of}
use Rattle.book.specs.Memory.{Money, money}
use Rattle.state.specs.State.{leads}
use Rattle.state.specs.Statuses.{is_normal}
use Rattle.state.specs.Answers.{quiet}
use Rattle.state.specs.declared.Replica.{Replica}
use Rattle.steps.specs.Steps.{Sound, committed_to}
use Rattle.normal.specs.declared.prepare_ok.Count.{Count}
use Rattle.normal.specs.declared.prepare_ok.Count.TheVariants.{Nothing, Note, Refuse, Commit}
use Rattle.normal.specs.PrepareOk.{Counted, counted, listens, ack_verdict, committed_by, by_count, prepare_ok_step}
use Rattle.model.specs.State.{ClientEntry, State, Reply, Answer, ignored, set_book, set_votes, set_acks, op_of}
use Rattle.model.specs.State.Answer.{refused, done}
use Rattle.model.specs.Book.{append_all, commit_replies}
use Rattle.model.specs.Sending.{messages_out, replies_out, primary, is_primary}
use Rattle.model.specs.Normal.{committed, ack_row, acked, blanked, on_prepare_ok}
use Rattle.layout.specs.Layout.{LentRuns, book_of, store_of, model_of}
use Rattle.model.specs.Steps.{fitted}
use Rattle.layout.specs.Shown.{Given, Step, Grew, Did, Shown}
use Rattle.layout.specs.Shown.Grew.{more}
use Rattle.layout.proofs.BookLift.{settle-lift, settle-replies, settle-replies-length}
use Rattle.steps.proofs.StepLift.{book_runs, no-growth}
use Rattle.steps.proofs.SendLift.{idle-shown, told, told-did, replies-only, silent}
use Rattle.frames.specs.declared.Refusal.TheVariants.{PastLog, NoRoomForReplies}

-- what a step that changes results, totals and acks leaves, and that may reply
abbrev pub of_counted : Given → Counted → Step
of_counted c d =
    record {
      answer = d.answer;
      runs =
          record {
            log = c.runs.log;
            results = d.money.results;
            totals = d.money.totals;
            acks = d.acks;
            stored = c.runs.stored;
          };
      out = c.out;
      reps = d.reps;
    }

-- who listens, by tests one after the other and by tests joined
unheard : (a b d l : Bool) → not (a and b and d) ≡ true
    → (when not a then false else when not b then false else when not d then false else l) ≡ false
unfolding ◌and◌ when◌then◌else◌
unheard false b d l e = refl
unheard true false d l e = refl
unheard true true false l e = refl
unheard true true true l e = absurd (false≢true e)

heard : (a b d l : Bool) → not (a and b and d) ≡ false
    → (when not a then false else when not b then false else when not d then false else l) ≡ l
unfolding ◌and◌ when◌then◌else◌
heard false b d l e = absurd (false≢true (sym e))
heard true false d l e = absurd (false≢true (sym e))
heard true true false l e = absurd (false≢true (sym e))
heard true true true l e = refl

-- two ways to the same answer
either : {A : Type 0} (a b : Bool) (x y : A) → (a or b) ≡ true → (when a then x else when b then x else y) ≡ x
unfolding ◌or◌ when◌then◌else◌
either true b x y e = refl
either false true x y e = refl
either false false x y e = absurd (false≢true e)

module _ (c : Given) (table : List ClientEntry) (applied : List Entry) (v : View) (o : Op) (r : ℕ) (sound : Sound c.state (book_runs c.runs))
    (bytes : Bytes c.runs.totals) where
  abbrev s : Replica
  s = c.state

  abbrev now : State
  now = model_of s c.runs table applied

  abbrev held : ℕ
  held = get_or c.runs.acks (o.0 - 1) 0

  abbrev Goal : Counted → Answer → Type 0
  Goal d a = Shown c (of_counted c d) now.book (fitted (length c.out) (length c.reps) a)

  -- results and totals
  abbrev x : Money
  x = money c.runs.results c.runs.totals

  abbrev by : Count → Counted
  by z = by_count z s o r c.runs.log x c.runs.acks c.reps

  abbrev Agree : Count → Answer → Type 0
  Agree z a = Goal (by z) a

  -- another row of acks: none but it changes
  abbrev noted : List ℕ
  noted = set c.runs.acks (o.0 - 1) (with_member held r)

  nothing-shown : Agree Nothing (ignored now)
  unfolding by_count
  nothing-shown = idle-shown c table applied

  -- the runs with other results, totals and acks
  abbrev left : Money → List ℕ → LentRuns
  left y acks = (of_counted c (counted (quiet s) y acks c.reps)).runs

  note-did : Did c (told c s (left x noted) false [] [] 0 0) now.book (acked now o.0 r) [] []
  unfolding acked ack_row set_acks set_votes model_of store_of book_of messages_out replies_out packed
  note-did =
      told-did c s (left x noted) false now.book (acked now o.0 r) refl refl (no-growth now.book)
      [] [] [] [] 0 0 refl refl refl refl

  note-shown : Agree Note (ignored (acked now o.0 r))
  unfolding by_count ignored over
  note-shown =
      subst (λ (a : Answer). Shown c (of_counted c (counted (quiet s) x noted c.reps)) now.book a)
      (sym (silent (length c.out) (length c.reps) (acked now o.0 r))) note-did

  -- ---- the op and all before it are committed

  abbrev next : State
  next = set_acks (committed now o.0) (blanked o.0 c.runs.acks)

  abbrev after : Counted
  after = committed_by s o c.runs.log x c.runs.acks c.reps

  module _ (le : o.0 ≤ s.op.0) where
    wide : 8 * s.setup.members ≤ length c.runs.totals
    wide = omega (arith, sound.totals-long)

    results-room : 9 * s.op.0 ≤ length c.runs.results
    results-room = omega (arith, sound.results-long, sound.op_le)

    blanks : over (replicate o.0 0) c.runs.acks ≡ blanked o.0 c.runs.acks
    unfolding over blanked
    blanks = ap (λ (k : ℕ). replicate o.0 0 ++ drop k c.runs.acks) (length-replicate o.0 0)

    reads : model_of (committed_to s o (record { log = c.runs.log; money = x })) (of_counted c after).runs next.book.table next.book.applied ≡ next
    unfolding model_of store_of committed_by committed set_acks set_votes set_book
    reads =
        λ i. set_acks
        (set_book now
        (settle-lift s.setup.members c.runs.log s.commit.0 x bytes wide s.op.0 s.takings table applied o.0
        results-room sound.commit-le le i))
        (blanks i)

    grew : Grew now.book false next.book
    unfolding committed set_acks set_votes set_book append_all
    grew = more [] o.0 refl refl

    abbrev answers : List Reply
    answers = commit_replies s.view.0 now.book o.0

    answers-long : length (replies_out (commit_replies s.view.0 now.book o.0)) ≡ 36 * (o.0 - s.commit.0)
    unfolding model_of
    answers-long =
        settle-replies-length s.view s.setup.members c.runs.log s.commit.0 x bytes wide s.op.0 s.takings
        table applied o.0 results-room sound.commit-le le

    commit-did : Did c (of_counted c after) now.book next [] (commit_replies s.view.0 now.book o.0)
    unfolding model_of committed_by messages_out packed over
    commit-did =
        let q =
        sym (settle-replies s.view s.setup.members c.runs.log s.commit.0 x bytes wide s.op.0 s.takings
        table applied o.0 results-room sound.commit-le le) in
        told-did c (committed_to s o (record { log = c.runs.log; money = x })) (of_counted c after).runs false now.book next refl reads grew [] answers [] _ 0 _ refl refl q
        (sym (ap length q) ∙ answers-long)

    commit-shown : Agree (when ltb (length c.reps) (36 * (o.0 - s.commit.0)) then Refuse NoRoomForReplies else Commit)
        (done next [] (commit_replies s.view.0 now.book o.0))
    unfolding by_count
    commit-shown =
        subst
        (λ (a : Answer). Shown c (of_counted c (by (when ltb (length c.reps) (36 * (o.0 - s.commit.0)) then Refuse NoRoomForReplies else Commit)))
        now.book a)
        (sym (replies-only (length c.out) (length c.reps) next answers))
        (split₂ (λ (z : Count) (a : Answer). Shown c (of_counted c (by z)) now.book a) _ _ _ _ _ _
        (ap (ltb (length c.reps)) (sym answers-long)) (λ _. refl) (λ _. commit-did))

  op-is : s.op.0 ≡ op_of now
  unfolding op_of model_of book_of
  op-is = sym (cells-length 32 entry_of s.op.0 c.runs.log)

  past-shown : Agree (Refuse PastLog) (refused PastLog)
  unfolding by_count fitted
  past-shown = refl

  -- what follows the tests on view, place and op, in the model
  abbrev rest : ℕ → Answer
  rest w =
      when eqb held 0 or eqb (bit held r) 1 then ignored now else
      when not (eqb (count_below s.setup.n (with_member held r)) (quorum_of s.setup.n)) then ignored (acked now o.0 r) else
      when ltb (op_of now) o.0 then refused PastLog else
      done next [] (commit_replies w now.book o.0)

  weighed : Agree (ack_verdict s o held r (length c.reps)) (rest s.view.0)
  unfolding ack_verdict
  weighed =
      split (Agree (ack_verdict s o held r (length c.reps))) _ _ _
      (λ t. subst (λ (z : Count). Agree z (ignored now)) (sym (either _ _ _ _ t)) nothing-shown)
      (λ f.
      subst (λ (z : Count). Agree z (when not (eqb (count_below s.setup.n (with_member held r)) (quorum_of s.setup.n)) then ignored (acked now o.0 r) else
      when ltb (op_of now) o.0 then refused PastLog else
      done next [] (commit_replies s.view.0 now.book o.0)))
      (sym (if-false _ _ _ (or_left _ _ f) ∙ if-false _ _ _ (or_right _ _ f)))
      (split₂ Agree _ _ _ _ _ _ refl (λ _. note-shown) λ _.
      split₂ Agree _ _ _ _ _ _ (ap (λ (k : ℕ). ltb k o.0) op-is) (λ _. past-shown) (λ l. commit-shown (ltb-false _ _ l))))

  -- on_prepare_ok where it doesn't listen, and where it does
  abbrev whole : Counted
  whole = prepare_ok_step s v o r c.runs.log x c.runs.acks c.reps

  deaf-shown : listens s v o ≡ false → Goal whole (ignored now)
  unfolding prepare_ok_step
  deaf-shown e = subst (λ (d : Counted). Goal d (ignored now)) (sym (if-true _ _ _ (ap not e))) (idle-shown c table applied)

  open-shown : listens s v o ≡ true → v.0 ≡ s.view.0 → Goal whole (rest v.0)
  unfolding prepare_ok_step
  open-shown e q =
      subst (λ (w : ℕ). Goal whole (rest w)) (sym q)
      (subst (λ (d : Counted). Goal d (rest s.view.0)) (sym (if-false _ _ _ (ap not e))) weighed)

  pub prepare-ok-shown : Shown c
      (of_counted c (prepare_ok_step s v o r c.runs.log (money c.runs.results c.runs.totals) c.runs.acks c.reps)) now.book
      (fitted (length c.out) (length c.reps) (on_prepare_ok s.setup now v.0 o.0 r))
  unfolding on_prepare_ok listens model_of book_of ack_row is_primary primary leads
  prepare-ok-shown =
      split (Goal whole) _ _ _ (λ t. deaf-shown (unheard _ _ _ _ t)) λ f.
      let e = heard (eqb v.0 s.view.0) (leads s) (is_normal s.status) (ltb s.commit.0 o.0) f in
      split (Goal whole) _ _ _ (λ t. deaf-shown (e ∙ le-ltb s.commit.0 o.0 (leb-true o.0 s.commit.0 t))) λ g.
      open-shown (e ∙ lt-ltb s.commit.0 o.0 (leb-false o.0 s.commit.0 g)) (eqb-true _ _ (and_left _ _ (not-false _ f)))
