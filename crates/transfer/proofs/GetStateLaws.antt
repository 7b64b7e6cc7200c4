-- The ways out of on_get_state, on plain variables, as the code's tests and calls give them. Assumes nothing.
use mathlib.Core.Path.{◌≡◌, ap, ◌∙◌}
use mathlib.Core.Bool.{Bool, true, false, not, false≢true}
use mathlib.Core.List.{List}
use Prim.Native.Nat.{ℕ, ◌-◌, ◌*◌, ◌≤◌, ◌<◌}
use native.Mathlib.Omega.{arith}
use lib.Dec.{leb, eqb}
use lib.ListN.{length, take, drop, length-drop}
use lib.Seq.{length-take-le}
use borrow.Author.Tests.{lt-ltb, le-ltb, eq-eqb, ne_eqb, leb-true, not-false}
use Rattle.numbers.specs.Words.{when◌then◌else◌}
use Rattle.numbers.specs.Numbers.{Wrote}
use Rattle.numbers.specs.declared.View.{View}
use Rattle.numbers.specs.declared.Op.{Op}
use Rattle.numbers.proofs.WordLaws.{split}
use Rattle.numbers.proofs.RunLaws.{part-rest}
use Rattle.entries.specs.Places.{entry_place}
use Rattle.entries.proofs.PlaceLaws.{place_is}
use Rattle.config.proofs.SetupLaws.{sized}
use Rattle.frames.specs.declared.Message.TheVariants.{NewState}
use Rattle.writers.specs.Writers.{encode, size_of, length_of}
use Rattle.writers.proofs.WriterLaws.{encode-length}
use Rattle.state.specs.Statuses.{is_normal}
use Rattle.state.specs.Answers.{refusal, completed, quiet}
use Rattle.state.specs.declared.Returned.{Returned}
use Rattle.state.specs.declared.Replica.{Replica}
use Rattle.steps.specs.Steps.{spoke}
use Rattle.transfer.specs.GetState.{Reading, answers, new_state_length, get_state_step}
use Rattle.frames.specs.declared.Refusal.TheVariants.{NoRoomForMessages}

-- whether it is answered
module _ (s : Replica) (v : View) (o : Op) where
  pub absent : not (is_normal s.status) ≡ true → false ≡ answers s v o
  unfolding answers when◌then◌else◌
  absent h = rw h

  pub elsewhere : not (is_normal s.status) ≡ false → (v.0 ≡ s.view.0 → ⊥) → false ≡ answers s v o
  unfolding answers when◌then◌else◌
  elsewhere h g = rw (h, ne_eqb v.0 s.view.0 g)

  pub here : not (is_normal s.status) ≡ false → v.0 ≡ s.view.0 → leb o.0 s.op.0 ≡ answers s v o
  unfolding answers when◌then◌else◌
  here h g = rw (h, eq-eqb v.0 s.view.0 g)

  -- it is answered from an op that we have
  pub has : not (answers s v o) ≡ false → o.0 ≤ s.op.0
  unfolding answers
  has h =
      split
      (λ (b : Bool). b ≡ true → o.0 ≤ s.op.0)
      (not (is_normal s.status))
      false
      (when not (eqb v.0 s.view.0) then false else leb o.0 s.op.0)
      (λ _ e. absurd (false≢true e))
      (λ _.
      split
      (λ (b : Bool). b ≡ true → o.0 ≤ s.op.0)
      (not (eqb v.0 s.view.0))
      false
      (leb o.0 s.op.0)
      (λ _ e. absurd (false≢true e))
      (λ _. leb-true o.0 s.op.0))
      (not-false (answers s v o) h)

-- the log from op o on
module _ (s : Replica) (o : Op) (log : List ℕ) (h : Reading s (length log)) (g : o.0 ≤ s.op.0) where
  -- what entries::entry_place asks, and `&log[p..]`
  pub starts : (o.0 ≤ 4096) × (entry_place o.0 ≤ length log)
  starts =
      let z = sized s.setup h.sized in
      (omega (arith, g, h.op_le, z.room-high), omega (arith, g, h.op_le, h.log-long, place_is o.0))

  -- the entries that are there
  rest-long : 32 * (s.op.0 - o.0) ≤ length (drop (entry_place o.0) log)
  rest-long = rw length-drop (omega (arith, g, h.op_le, h.log-long, place_is o.0))

  -- what writers::kinds::new_state asks
  pub new-state-fits : (p : ℕ) (out : List ℕ) → p ≡ entry_place o.0 → new_state_length s o ≤ length out
      → (s.op.0 - o.0 ≤ 4096)
      × ((32 * (s.op.0 - o.0) ≤ length (take (length log - p) (drop p log))) × (new_state_length s o ≤ length out))
  new-state-fits p out e l =
      let z = sized s.setup h.sized in
      rw (e, part-rest (entry_place o.0) log) (omega (arith, h.op_le, z.room-high), (rest-long, l))

  new-state-length : (from : ℕ) (v : View)
      → length (encode from (NewState v o s.op s.commit) (take (32 * (s.op.0 - o.0)) (drop (entry_place o.0) log)))
      ≡ new_state_length s o
  unfolding size_of length_of
  new-state-length from v =
      encode-length
      from
      (NewState v o s.op s.commit)
      (take (32 * (s.op.0 - o.0)) (drop (entry_place o.0) log))
      (length-take-le (32 * (s.op.0 - o.0)) (drop (entry_place o.0) log) rest-long)

-- on_get_state
module _ (s : Replica) (from : ℕ) (v : View) (o : Op) (log out : List ℕ) where
  pub unanswered : (a : Returned) → not (answers s v o) ≡ true → a ≡ quiet s → spoke a out ≡ get_state_step s from v o log out
  unfolding get_state_step when◌then◌else◌
  unanswered a h p = rw (h, p)

  pub short : (a : Returned) → not (answers s v o) ≡ false → length out < new_state_length s o → a ≡ refusal NoRoomForMessages s
      → spoke a out ≡ get_state_step s from v o log out
  unfolding get_state_step when◌then◌else◌
  short a h g p = rw (h, lt-ltb (length out) (new_state_length s o) g, p)

  pub answered : (a : Returned) (p w : ℕ) (x : List ℕ) → Reading s (length log) → not (answers s v o) ≡ false → new_state_length s o ≤ length out
      → p ≡ entry_place o.0
      → Wrote (encode from (NewState v o s.op s.commit) (take (32 * (s.op.0 - o.0)) (take (length log - p) (drop p log)))) out x w
      → a ≡ completed s w 0 false → spoke a x ≡ get_state_step s from v o log out
  unfolding get_state_step when◌then◌else◌
  answered a p w x r h g e q c =
      let bytes : take (length log - p) (drop p log) ≡ drop (entry_place o.0) log = part-rest p log ∙ ap (λ (i : ℕ). drop i log) e in
      rw (
        h,
        le-ltb (length out) (new_state_length s o) g,
        c,
        q.bytes,
        q.count,
        bytes,
        new-state-length s o log r (has s v o h) from v,
      )
