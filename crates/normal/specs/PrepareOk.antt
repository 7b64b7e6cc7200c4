-- on_prepare_ok, on the state by value and the bytes of the lent runs: an ack fires only when the count reaches the quorum exactly. Refusal 5
-- where the Rust panics: acks aren't cleared when a NewState is installed, so that a row may stand above the log. Assumes nothing.
use Rattle.std.specs.Prelude.{Bool, false, not, List, ℕ, ◌-◌, ◌*◌, ltb, eqb, length, get_or, set, replicate}
use Rattle.numbers.specs.Words.{when◌then◌else◌}
use Rattle.numbers.specs.Numbers.{over}
use Rattle.numbers.specs.declared.View.{View}
use Rattle.numbers.specs.declared.Op.{Op}
use Rattle.entries.specs.Places.{ack_place}
use Rattle.config.specs.Replicas.{bit, with_member, count_below, quorum_of}
use Rattle.book.specs.Runs.{money_committed, replies}
use Rattle.book.specs.Memory.{Money, Memory}
use Rattle.state.specs.State.{leads}
use Rattle.state.specs.Statuses.{is_normal}
use Rattle.state.specs.Answers.{refusal, completed, quiet}
use Rattle.state.specs.declared.Returned.{Returned}
use Rattle.state.specs.declared.Replica.{Replica}
use Rattle.steps.specs.Steps.{committed_to}
use Rattle.normal.specs.declared.prepare_ok.Count.{Count}
use Rattle.normal.specs.declared.prepare_ok.Count.TheVariants.{Nothing, Note, Refuse, Commit}
use Rattle.steps.specs.Recorded.{Recorded, recorded}
use Rattle.frames.specs.declared.Refusal.TheVariants.{PastLog, NoRoomForReplies}

-- what a PrepareOk leaves: the answer, results and totals, acks, and the area for replies
pub record Counted : Type 0 where
  pub answer : Returned
  pub money : Money
  pub acks : List ℕ
  pub reps : List ℕ

abbrev pub counted : Returned → Money → (acks reps : List ℕ) → Counted
counted a x acks reps = record { answer = a; money = x; acks = acks; reps = reps }

-- what a PrepareOk leaves, beside what it is not lent
abbrev pub of_counted : Memory → Counted → Recorded
of_counted m d =
    recorded
    d.answer
    (record {
      runs = record { log = m.runs.log; money = d.money };
      acks = d.acks;
      stored = m.stored;
      out = m.out;
      reps = d.reps;
    })

-- a Normal primary, in its view, for an op that isn't money_committed
unfoldable pub listens : Replica → View → Op → Bool
listens s v op =
    when not (eqb v.0 s.view.0) then false else
    when not (leads s) then false else
    when not (is_normal s.status) then false else
    ltb s.commit.0 op.0

-- what one more ack calls for, `held` being the row of the op, `room` the size of the area for replies
unfoldable pub ack_verdict : Replica → Op → (held from room : ℕ) → Count
ack_verdict s op held from room =
    when eqb held 0 then Nothing else
    when eqb (bit held from) 1 then Nothing else
    when not (eqb (count_below s.setup.n (with_member held from)) (quorum_of s.setup.n)) then Note else
    when ltb s.op.0 op.0 then Refuse PastLog else
    when ltb room (36 * (op.0 - s.commit.0)) then Refuse NoRoomForReplies else
    Commit

-- all up to op is money_committed, with a reply to each in the current view, and the rows of acks up to it go
unfoldable pub committed_by : Replica → Op → (log : List ℕ) → Money → (acks reps : List ℕ) → Counted
committed_by s op log x acks reps =
    counted
    (completed (committed_to s op (record { log = log; money = x })) 0 (36 * (op.0 - s.commit.0)) false)
    (money_committed s.setup.members log s.commit.0 (op.0 - s.commit.0) x)
    (over (replicate (ack_place op.0) 0) acks)
    (over
    (replies
    s.view
    log
    (money_committed s.setup.members log s.commit.0 (op.0 - s.commit.0) x).results
    s.commit.0
    (op.0 - s.commit.0))
    reps)

unfoldable pub by_count : Count → Replica → Op → (from : ℕ) (log : List ℕ) → Money → (acks reps : List ℕ) → Counted
by_count Nothing s op from log x acks reps = counted (quiet s) x acks reps
by_count Note s op from log x acks reps =
    counted (quiet s) x (set acks (ack_place (op.0 - 1)) (with_member (get_or acks (ack_place (op.0 - 1)) 0) from)) reps
by_count (Refuse k) s op from log x acks reps = counted (refusal k s) x acks reps
by_count Commit s op from log x acks reps = committed_by s op log x acks reps

-- on_prepare_ok
unfoldable pub prepare_ok_step : Replica → View → Op → (from : ℕ) (log : List ℕ) → Money → (acks reps : List ℕ) → Counted
prepare_ok_step s v op from log x acks reps =
    when not (listens s v op) then counted (quiet s) x acks reps else
    by_count (ack_verdict s op (get_or acks (ack_place (op.0 - 1)) 0) from (length reps)) s op from log x acks reps
