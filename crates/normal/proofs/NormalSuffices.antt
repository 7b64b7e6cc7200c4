-- Request, Prepare, PrepareOk, Commit and a Normal primary's tick aren't refused for want of room in areas of `out_length` and `reps_length` bytes.
-- Assumes nothing.
use mathlib.Core.Path.{◌≡◌}
use mathlib.Core.Bool.{false}
use mathlib.Core.List.{List}
use Prim.Native.Nat.{ℕ, ◌+◌, ◌-◌, ◌*◌, ◌≤◌}
use native.Mathlib.Nat.{mul-add, mul_assoc, mul_comm}
use native.Mathlib.Omega.{arith}
use borrow.Author.Tests.{ltb-false}
use lib.ListN.{length, get_or}
use Rattle.numbers.specs.declared.View.{View}
use Rattle.numbers.specs.declared.Op.{Op}
use Rattle.numbers.proofs.WordLaws.{split}
use Rattle.entries.specs.Places.{ack_place}
use Rattle.entries.specs.declared.Entry.{Entry}
use Rattle.config.proofs.SetupLaws.{sized}
use Rattle.client_table.specs.declared.Latest.{Latest}
use Rattle.client_table.specs.declared.Latest.TheVariants as Row
use Rattle.state.specs.declared.Replica.{Replica}
use Rattle.steps.specs.Steps.{Sound, Left, accept_of}
use Rattle.steps.specs.Areas.{out_length}
use Rattle.steps.proofs.AreaLaws.{Answers, one-fits, each_fits, later, done, no_room, no-reply-room}
use Rattle.steps.proofs.StepsSuffice.{Spoken, LeftBy, transferred-suffices, deferred-suffices, acked-suffices}
use Rattle.book.specs.Memory.{Money, Runs}
use Rattle.normal.specs.Request as Request
use Rattle.normal.specs.Request.{request_step, sends_of}
use Rattle.normal.specs.Prepare as Prepare
use Rattle.normal.specs.Prepare.{appended_by, taken_prepare, prepare_step}
use Rattle.normal.specs.PrepareOk as PrepareOk
use Rattle.normal.specs.PrepareOk.{Counted, prepare_ok_step}
use Rattle.normal.specs.Commit.{taken_commit, commit_step}
use Rattle.normal.specs.Tick.{heartbeat_length, prepares_length, primary_tick}
use Rattle.normal.specs.declared.prepare.Prepared.{Prepared}
use Rattle.normal.specs.declared.prepare.PrepareVerdict.{PrepareVerdict}
use Rattle.normal.specs.declared.prepare_ok.Count.{Count}
use Rattle.normal.specs.declared.request.RequestVerdict.{RequestVerdict}
use Rattle.state.specs.Answers.{code_of}

-- a Commit and j Prepares to each of k others
beats : (k j : ℕ) → 15 * k + 51 * k * j ≡ k * (15 + 51 * j)
beats k j = omega (arith, mul-add k 15 (51 * j), mul_assoc 51 k j, mul_assoc k 51 j, mul_comm k 51)

module _ (s : Replica) (x : Runs) (h : Sound s x) where
  sends-fit : sends_of s ≤ out_length s.setup
  sends-fit = omega (arith, each_fits s.setup h.sized 51 (omega (arith, (sized s.setup h.sized).room-low)))

  tick-fits : heartbeat_length s + prepares_length s (s.op.0 - s.commit.0) ≤ out_length s.setup
  tick-fits =
      let j = s.op.0 - s.commit.0 in
      omega (arith, beats (s.setup.n - 1) j, each_fits s.setup h.sized (15 + 51 * j) (omega (arith, h.op_le)))

  -- ---- Request

  module _ (e : Entry) (latest : Latest) (log acks out reps : List ℕ) where
    abbrev Called : RequestVerdict → Type 0
    Called k = Answers s.setup (length out) (length reps) (code_of (Request.by_call k s e log acks out reps).answer)

    new-suffices : Called (Request.new_verdict s (length out))
    unfolding Request.new_verdict Request.by_call Request.accepted
    new-suffices =
        split Called _ _ _ (λ _. later (omega arith) (omega arith)) λ _.
        split Called _ _ _ (no_room (sends_of s) sends-fit) λ _. done

    known-suffices : (l : Latest) → Called (Request.known_verdict e l (length reps))
    unfolding Request.known_verdict Request.again_verdict Request.by_call Request.resent
    known-suffices Row.Nothing = done
    known-suffices (Row.Waiting r) = done
    known-suffices (Row.Answered r o) =
        split Called _ _ _ (λ _. done) λ _.
        split Called _ _ _ (no-reply-room 36 (omega (arith, (sized s.setup h.sized).room-low))) λ _. done

    client-suffices : Called (Request.client_verdict s e latest (length out) (length reps))
    unfolding Request.client_verdict
    client-suffices =
        split Called _ _ _ (λ _. new-suffices) (λ _. known-suffices latest)

    pub request-suffices : Answers s.setup (length out) (length reps) (code_of (request_step s e latest log acks out reps).answer)
    unfolding request_step Request.request_verdict Request.by_call
    request-suffices =
        split Called _ _ _ (λ _. done) λ _.
        split Called _ _ _ (λ _. done) λ _. client-suffices

  -- ---- Prepare; `room` is the length of the area for replies

  module _ (out : List ℕ) (room : ℕ) where
    abbrev LeftHere : Left → Type 0
    LeftHere = LeftBy s.setup h.sized out room

    append-suffices : (p : Prepared) → LeftHere (appended_by s p x out)
    unfolding appended_by
    append-suffices p =
        split LeftHere _ _ _ (no_room 16 (one-fits s.setup h.sized 16 (omega arith)))
        (λ _. acked-suffices s.setup h.sized out room s _ _ false _)

    verdict-suffices : (p : Prepared) → LeftHere (Prepare.by_prepare_verdict (Prepare.append_verdict s p) s p x out)
    unfolding Prepare.append_verdict Prepare.by_prepare_verdict
    verdict-suffices p =
        split P _ _ _ (λ _. later (omega arith) (omega arith)) λ _.
        split P _ _ _ (λ _. later (omega arith) (omega arith)) λ _. append-suffices p
      where
        P : PrepareVerdict → Type 0
        P d = LeftHere (Prepare.by_prepare_verdict d s p x out)

    taken-suffices : (p : Prepared) → LeftHere (taken_prepare s p x out)
    unfolding taken_prepare Prepare.prepare_verdict Prepare.by_prepare_verdict
    taken-suffices p =
        split P _ _ _ (λ _. transferred-suffices s.setup h.sized out room s) λ _.
        split P _ _ _ (λ _. acked-suffices s.setup h.sized out room s _ _ false x) λ _. verdict-suffices p
      where
        P : PrepareVerdict → Type 0
        P d = LeftHere (Prepare.by_prepare_verdict d s p x out)

    pub prepare-suffices : (v : View) (p : Prepared) → LeftHere (prepare_step s v p x out)
    unfolding prepare_step
    prepare-suffices v p =
        split LeftHere _ _ _ (λ _. taken-suffices p) (λ _. deferred-suffices s.setup h.sized out room (accept_of s v) s v)

    -- ---- Commit

    pub commit-suffices : (v : View) (c : Op) → LeftHere (commit_step s v c x out)
    unfolding commit_step taken_commit
    commit-suffices v c =
        split LeftHere _ _ _
        (λ _. split LeftHere _ _ _ (λ _. transferred-suffices s.setup h.sized out room s) (λ _. done))
        (λ _. deferred-suffices s.setup h.sized out room (accept_of s v) s v)

    -- ---- a primary's tick

    pub primary-tick-suffices : (log : List ℕ) → Spoken s.setup h.sized out room (primary_tick s log out)
    unfolding primary_tick
    primary-tick-suffices log = split (Spoken s.setup h.sized out room) _ _ _ (no_room _ tick-fits) (λ _. done)

  -- ---- PrepareOk; `room` is the length of the area for messages

  module _ (room : ℕ) (o : Op) (r : ℕ) (log : List ℕ) (money : Money) (acks reps : List ℕ) where
    abbrev Counts : Count → Type 0
    Counts d = Answers s.setup room (length reps) (code_of (PrepareOk.by_count d s o r log money acks reps).answer)

    ack-suffices : (held : ℕ) → Counts (PrepareOk.ack_verdict s o held r (length reps))
    unfolding PrepareOk.ack_verdict PrepareOk.by_count PrepareOk.committed_by
    ack-suffices held =
        split Counts _ _ _ (λ _. done) λ _.
        split Counts _ _ _ (λ _. done) λ _.
        split Counts _ _ _ (λ _. done) λ _.
        split Counts _ _ _ (λ _. later (omega arith) (omega arith)) λ l.
        split Counts _ _ _
        (no-reply-room (36 * (o.0 - s.commit.0)) (omega (arith, ltb-false s.op.0 o.0 l, h.op_le))) λ _. done

    pub prepare-ok-suffices : (v : View)
        → Answers s.setup room (length reps) (code_of (prepare_ok_step s v o r log money acks reps).answer)
    unfolding prepare_ok_step
    prepare-ok-suffices v =
        split (λ (d : Counted). Answers s.setup room (length reps) (code_of d.answer)) _ _ _ (λ _. done)
        (λ _. ack-suffices (get_or acks (ack_place (o.0 - 1)) 0))
