-- The ways out of send_start_view and on_start_view, on plain variables, as the code's tests and calls give them. Assumes nothing.
use mathlib.Core.Path.{◌≡◌, sym, ap, ◌∙◌, subst}
use mathlib.Core.Bool.{Bool, true, false, not}
use mathlib.Core.List.{List}
use Prim.Native.Nat.{ℕ, ◌+◌, ◌*◌, ◌≤◌, ◌<◌}
use native.Mathlib.Omega.{arith}
use lib.Dec.{ltb}
use lib.ListN.{length, take, replicate}
use lib.Seq.{length-take-le}
use borrow.Author.Tests.{lt-ltb, le-ltb}
use Rattle.numbers.specs.Words.{when◌then◌else◌}
use Rattle.numbers.specs.Numbers.{over, Wrote}
use Rattle.numbers.proofs.WordLaws.{split}
use Rattle.numbers.specs.declared.View.{View}
use Rattle.numbers.specs.declared.Op.{Op}
use Rattle.entries.specs.Places.{entry_place}
use Rattle.entries.proofs.PlaceLaws.{place_is, place_mono}
use Rattle.config.proofs.SetupLaws.{sized}
use Rattle.frames.specs.declared.Message.TheVariants.{StartView}
use Rattle.writers.specs.Writers.{encode, size_of, length_of}
use Rattle.writers.proofs.WriterLaws.{encode-length}
use Rattle.book.specs.Log.{with_entries, keeps_first}
use Rattle.book.proofs.LogLaws.{with-length, keeps-prefix}
use Rattle.state.specs.State.{with_log, normal_in}
use Rattle.state.specs.Statuses.{is_changing}
use Rattle.state.specs.Answers.{refusal, completed, quiet}
use Rattle.state.specs.declared.Returned.{Returned}
use Rattle.state.specs.declared.Replica.{Replica}
use Rattle.steps.specs.Steps.{Sound, left, spoke, committed_and_acked}
use Rattle.book.specs.Memory.{Runs, runs}
use Rattle.view_change.specs.declared.StartViewVerdict.{StartViewVerdict}
use Rattle.view_change.specs.declared.StartViewVerdict.TheVariants.{Ignore, Refuse, Join}
use Rattle.view_change.specs.StartView.{LogHeld, LogPassed, start_view_length, sent_start_view, keep_verdict, start_view_verdict, Joined, joined, joined_by, by_start_view_verdict, start_view_step}
use Rattle.frames.specs.declared.Refusal.TheVariants.{Uncommits, NoRoomForMessages}

-- ---- send_start_view

module _ (s : Replica) (to : ℕ) (log out : List ℕ) where
  pub sends-short : (a : Returned) → length out < start_view_length s → a ≡ refusal NoRoomForMessages s → spoke a out ≡ sent_start_view s to log out
  unfolding sent_start_view when◌then◌else◌
  sends-short a h p = rw (lt-ltb (length out) (start_view_length s) h, p)

  module _ (h : LogHeld s (length log)) where
    pub send-fits : start_view_length s ≤ length out
        → (s.op.0 ≤ 4096) × ((32 * s.op.0 ≤ length log) × (19 + 32 * s.op.0 ≤ length out))
    send-fits l =
        let z = sized s.setup h.sized in
        (omega (arith, h.op_le, z.room-high), (omega (arith, h.op_le, h.log-long), l))

    long : length (encode to (StartView s.view s.op s.commit) (take (32 * s.op.0) log)) ≡ start_view_length s
    unfolding size_of length_of
    long =
        encode-length to (StartView s.view s.op s.commit) (take (32 * s.op.0) log)
        (length-take-le (32 * s.op.0) log (omega (arith, h.op_le, h.log-long)))

    pub sends : (a : Returned) (w : ℕ) (o : List ℕ) → start_view_length s ≤ length out
        → Wrote (encode to (StartView s.view s.op s.commit) (take (32 * s.op.0) log)) out o w → a ≡ completed s w 0 false
        → spoke a o ≡ sent_start_view s to log out
    unfolding sent_start_view when◌then◌else◌
    sends a w o l q p = rw (le-ltb (length out) (start_view_length s) l, p, q.bytes, q.count, long)

-- ---- on_start_view, its verdict

module _ (s : Replica) (o : Op) (part log : List ℕ) where
  pub keep-fits : LogHeld s (length log) → s.commit.0 ≤ s.op.0 → 32 * o.0 ≤ length part
      → (s.commit.0 ≤ 4096) × ((entry_place s.commit.0 ≤ length log) × (32 * o.0 ≤ length part))
  keep-fits h l g =
      let z = sized s.setup h.sized in
      let p = place_mono s.commit.0 s.setup.room (omega (arith, l, h.op_le)) in
      (omega (arith, l, h.op_le, z.room-high), (omega (arith, p, place_is s.setup.room, h.log-long), g))

  pub keeps-ours : (b : Bool) → b ≡ keeps_first s.commit.0 log o.0 part → b ≡ true → Join ≡ keep_verdict s o part log
  unfolding keep_verdict when◌then◌else◌
  keeps-ours b p q = rw (← p, q)

  pub alters-ours : (b : Bool) → b ≡ keeps_first s.commit.0 log o.0 part → b ≡ false → Refuse ≡ keep_verdict s o part log
  unfolding keep_verdict when◌then◌else◌
  alters-ours b p q = rw (← p, q)

  module _ (v : View) where
    pub older : v.0 < s.view.0 → Ignore ≡ start_view_verdict s v o part log
    unfolding start_view_verdict when◌then◌else◌
    older h = rw (lt-ltb v.0 s.view.0 h)

    module _ (g : s.view.0 ≤ v.0) where
      pub newer : (r : StartViewVerdict) → s.view.0 < v.0 → r ≡ keep_verdict s o part log → r ≡ start_view_verdict s v o part log
      unfolding start_view_verdict when◌then◌else◌
      newer r h p = rw (le-ltb v.0 s.view.0 g, lt-ltb s.view.0 v.0 h, p)

      pub known : v.0 ≤ s.view.0 → not (is_changing s.status) ≡ true → Ignore ≡ start_view_verdict s v o part log
      unfolding start_view_verdict when◌then◌else◌
      known h n = rw (le-ltb v.0 s.view.0 g, le-ltb s.view.0 v.0 h, n)

      pub awaited : (r : StartViewVerdict) → v.0 ≤ s.view.0 → not (is_changing s.status) ≡ false → r ≡ keep_verdict s o part log
          → r ≡ start_view_verdict s v o part log
      unfolding start_view_verdict when◌then◌else◌
      awaited r h n p = rw (le-ltb v.0 s.view.0 g, le-ltb s.view.0 v.0 h, n, p)

-- what a verdict says of the numbers
unfoldable Told : Replica → Op → StartViewVerdict → Type 0
Told s o Ignore = Unit
Told s o Refuse = Unit
Told s o Join = s.commit.0 ≤ o.0

keep-told : (s : Replica) (o : Op) (part log : List ℕ) → Told s o (keep_verdict s o part log)
unfolding keep_verdict Told
keep-told s o part log =
    split (Told s o) (keeps_first s.commit.0 log o.0 part) Join Refuse (λ k. (keeps-prefix s.commit.0 log o.0 part k).0) (λ _. tt)

told : (s : Replica) (o : Op) (part log : List ℕ) (v : View) → Told s o (start_view_verdict s v o part log)
unfolding start_view_verdict Told
told s o part log v =
    split (Told s o) (ltb v.0 s.view.0) Ignore _ (λ _. tt) (λ _.
    split (Told s o) (ltb s.view.0 v.0) (keep_verdict s o part log) _ (λ _. keep-told s o part log) (λ _.
    split (Told s o) (not (is_changing s.status)) Ignore (keep_verdict s o part log) (λ _. tt) (λ _. keep-told s o part log)))

-- a StartView that is joined keeps all our committed entries
pub join-keeps : (s : Replica) (o : Op) (part log : List ℕ) (v : View) → start_view_verdict s v o part log ≡ Join → s.commit.0 ≤ o.0
unfolding Told
join-keeps s o part log v e = subst (Told s o) e (told s o part log v)

-- ---- on_start_view, what it leaves

module _ (s : Replica) (v : View) (o c : Op) (part log results totals acks out : List ℕ) where
  abbrev x : Runs
  x = runs log results totals

  pub joins-short : (a : Returned) → length out < 16 → a ≡ refusal NoRoomForMessages s → joined a (runs log results totals) acks out ≡ joined_by s v o c part (runs log results totals) acks out
  unfolding joined_by when◌then◌else◌
  joins-short a h p = rw (lt-ltb (length out) 16 h, p)

  module _ (h : Sound s (runs log results totals)) (k : LogPassed s o c) (l : s.commit.0 ≤ o.0) (g : 32 * o.0 ≤ length part) where
    pub part-fits : (0 + o.0 ≤ 4096) × ((entry_place (0 + o.0) ≤ length log) × (32 * o.0 ≤ length part))
    part-fits =
        let z = sized s.setup h.sized in
        let p = place_mono (0 + o.0) s.setup.room (omega (arith, k.op_le)) in
        (omega (arith, k.op_le, z.room-high), (omega (arith, p, place_is s.setup.room, h.log-long), g))

    pub joins-sound : (t : Replica) (log' : List ℕ) → t ≡ with_log (normal_in s v) o s.commit → log' ≡ with_entries 0 (take (32 * o.0) part) log
        → Sound t (runs log' results totals) × (c.0 ≤ t.op.0)
    joins-sound t log' p q =
        let e : length log' ≡ length log = ap length q ∙ with-length 0 o.0 (take (32 * o.0) part) log (length-take-le (32 * o.0) part g) part-fits.1.0 in
        subst (λ (t : Replica). Sound t (runs log' results totals) × (c.0 ≤ t.op.0)) (sym p) (
          record {
            sized = h.sized;
            commit-le = l;
            op_le = k.op_le;
            log-long = e ∙ h.log-long;
            results-long = h.results-long;
            totals-long = h.totals-long;
          },
          k.commit-le,
        )

  pub joins : (a : Returned) (t : Replica) (log' results' totals' acks' out' : List ℕ) → 16 ≤ length out → t ≡ with_log (normal_in s v) o s.commit
      → log' ≡ with_entries 0 (take (32 * o.0) part) log → acks' ≡ over (replicate s.setup.room 0) acks
      → left a (runs log' results' totals') out' ≡ committed_and_acked s t c true (runs log' results totals) out
      → joined a (runs log' results' totals') acks' out' ≡ joined_by s v o c part (runs log results totals) acks out
  unfolding joined_by when◌then◌else◌
  joins a t log' results' totals' acks' out' h p q r e =
      rw (le-ltb (length out) 16 h)
      (λ i.
      let d = (e ∙ λ j. committed_and_acked s (p j) c true (runs (q j) results totals) out) i in
      joined d.answer d.runs (r i) d.out)

  module _ (j : StartViewVerdict) (p : j ≡ start_view_verdict s v o part log) where
    pub does-nothing : (a : Returned) → j ≡ Ignore → a ≡ quiet s → joined a (runs log results totals) acks out ≡ start_view_step s v o c part (runs log results totals) acks out
    unfolding start_view_step by_start_view_verdict
    does-nothing a e q = rw (← p, e, q)

    pub refuses : (a : Returned) → j ≡ Refuse → a ≡ refusal Uncommits s → joined a (runs log results totals) acks out ≡ start_view_step s v o c part (runs log results totals) acks out
    unfolding start_view_step by_start_view_verdict
    refuses a e q = rw (← p, e, q)

    pub joins-it : (d : Joined) → j ≡ Join → d ≡ joined_by s v o c part (runs log results totals) acks out → d ≡ start_view_step s v o c part (runs log results totals) acks out
    unfolding start_view_step by_start_view_verdict
    joins-it d e q = rw (← p, e, q)
