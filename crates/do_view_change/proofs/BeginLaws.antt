-- The beginning of a view, on plain variables, as the code's tests and calls give them: what goes out first, StartView to all others, acks anew,
-- and what it leaves. Assumes nothing.
use mathlib.Core.Path.{◌≡◌, refl, sym, ap, ◌∙◌, subst}
use mathlib.Core.Bool.{Bool, true, false}
use mathlib.Core.List.{List, [], ◌++◌, append_assoc}
use Prim.Native.Nat.{ℕ, ◌+◌, ◌-◌, ◌*◌, max, ◌≤◌, ◌<◌}
use native.Mathlib.Nat.{mul-le-mul}
use native.Mathlib.Omega.{arith}
use lib.ListN.{length, take, drop, replicate, length-take, length-drop, length-append, length-replicate, replicate-append-replicate}
use lib.Seq.{take_at, drop_at, length-take-le}
use Rattle.numbers.specs.Words.{when◌then◌else◌}
use Rattle.numbers.specs.Numbers.{over, put_at, Wrote}
use Rattle.numbers.proofs.WordLaws.{split, split₂}
use Rattle.numbers.proofs.RunLaws.{over-lend, over-nil, length_over, put-part}
use Rattle.numbers.specs.declared.Op.{Op}
use Rattle.entries.specs.Places.{entry_place, ack_place}
use Rattle.entries.proofs.PlaceLaws.{place_is, place_mono}
use Rattle.config.specs.Setup.{setup_ok}
use Rattle.config.specs.Replicas.{with_member}
use Rattle.config.specs.declared.Setup.{Setup}
use Rattle.config.proofs.SetupLaws.{sized}
use Rattle.frames.specs.declared.Message.TheVariants.{StartView}
use Rattle.writers.specs.Writers.{size_of, length_of, to_others}
use Rattle.writers.proofs.WriterLaws.{others-length}
use Rattle.book.specs.Runs.{replies}
use Rattle.book.specs.Memory.{money, Runs, runs}
use Rattle.state.specs.State.{with_log, normal_in}
use Rattle.state.specs.Answers.{completed}
use Rattle.state.specs.Lengths.{acks_length}
use Rattle.state.specs.declared.Returned.{Returned}
use Rattle.state.specs.declared.Replica.{Replica}
use Rattle.steps.specs.Steps.{Sound, committed_to, settled}
use Rattle.view_change.specs.StartViewChange.{calls_length, calls_of}
use Rattle.view_change.specs.StartView.{LogHeld}
use Rattle.view_change.proofs.StartViewChangeLaws.{calls-long}
use Rattle.do_view_change.specs.Begin.{calls_first, first_length, start_views_length, start_views_of, own_acks, entered, owed, begun, begun_in, begin_step}

-- ---- what goes out first

module _ (first : Bool) (t : Replica) where
  pub calls-counted : first ≡ true → calls_length t ≡ first_length first t
  unfolding first_length when◌then◌else◌
  calls-counted h = rw h

  pub none-counted : first ≡ false → 0 ≡ first_length first t
  unfolding first_length when◌then◌else◌
  none-counted h = rw h

  pub calls-go : (out o : List ℕ) (k : ℕ) → first ≡ true → Wrote (calls_of t t.view) out o k → Wrote (calls_first first t) out o k
  unfolding calls_first when◌then◌else◌
  calls-go out o k h q = rw h q

  pub none-go : (out : List ℕ) → first ≡ false → Wrote (calls_first first t) out out 0
  unfolding calls_first when◌then◌else◌
  none-go out h = rw h (record { bytes = over-nil out; count = refl })

  module _ (ok : setup_ok t.setup ≡ true) where
    pub first-long : length (calls_first first t) ≡ first_length first t
    unfolding calls_first first_length
    first-long =
        split₂ (λ (x : List ℕ) (k : ℕ). length x ≡ k) first first (calls_of t t.view) [] (calls_length t) 0 refl
        (λ _. calls-long t t.view ok)
        (λ _. refl)

    pub first_small : first_length first t ≤ 72
    unfolding first_length
    first_small =
        split (λ (k : ℕ). k ≤ 72) first (calls_length t) 0 (λ _. omega (arith, (sized t.setup ok).seven)) (λ _. omega arith)

-- ---- StartView to all others

-- no more than 4096 entries to 6 others
pub views-small : (u : Setup) (o : ℕ) → setup_ok u ≡ true → o ≤ u.room → (u.n - 1) * (19 + 32 * o) ≤ 786546
views-small u o ok l =
    let z = sized u ok in
    mul-le-mul {n₁ = u.n - 1} {m₁ = 19 + 32 * o} {n₂ = 6} {m₂ = 131091} (omega (arith, z.seven)) (omega (arith, l, z.room-high))

views-long : (u : Replica) (log : List ℕ) → LogHeld u (length log) → length (start_views_of u log) ≡ start_views_length u
unfolding size_of length_of
views-long u log h =
    others-length u.setup.id (StartView u.view u.op u.commit) (take (32 * u.op.0) log)
    (length-take-le (32 * u.op.0) log (omega (arith, h.op_le, h.log-long)))
    u.setup.n (sized u.setup h.sized).own

module _ (t u : Replica) (first : Bool) (log out : List ℕ) (ok : setup_ok t.setup ≡ true) (h : LogHeld u (length log)) where
  all-long : length (calls_first first t ++ start_views_of u log) ≡ first_length first t + start_views_length u
  all-long =
      length-append (calls_first first t) (start_views_of u log)
      ∙ λ i. first-long first t ok i + views-long u log h i

  -- where what goes out first stands over the front of an area with room for all
  module _ (l : first_length first t + start_views_length u ≤ length out) (w : ℕ) (o : List ℕ) (b : Wrote (calls_first first t) out o w) where
    calls_count : w ≡ first_length first t
    calls_count = b.count ∙ first-long first t ok

    calls-length : length o ≡ length out
    calls-length = ap length b.bytes ∙ length_over (calls_first first t) out (omega (arith, l, first-long first t ok))

    pub views-in : w ≤ length o
    views-in = omega (arith, l, calls_count, calls-length)

    views-rest : start_views_length u ≤ length (take (length o - w) (drop w o))
    views-rest = simp (length-take, length-drop) (omega (arith, l, calls_count, calls-length))

    -- what writers::broadcast asks
    pub views-ask : (u.setup.id < u.setup.n)
        × (((size_of (StartView u.view u.op u.commit)).entries ≤ 4096)
        × ((32 * (size_of (StartView u.view u.op u.commit)).entries ≤ length log)
        × ((u.setup.n - 1) * length_of (StartView u.view u.op u.commit) ≤ length (take (length o - w) (drop w o)))))
    unfolding size_of length_of
    views-ask =
        let z = sized u.setup h.sized in
        (z.own, (omega (arith, h.op_le, z.room-high), (omega (arith, h.op_le, h.log-long), views-rest)))

    module _ (k : ℕ) (part : List ℕ)
        (d : Wrote (to_others u.setup.n u.setup.id (StartView u.view u.op u.commit)
        (take (32 * (size_of (StartView u.view u.op u.commit)).entries) log)) (take (length o - w) (drop w o)) part k) where
      views-count : k ≡ start_views_length u
      unfolding size_of
      views-count = d.count ∙ views-long u log h

      pub sent-small : w + k ≤ 786618
      sent-small =
          omega (arith, calls_count, views-count, first_small first t ok, views-small u.setup u.op.0 h.sized h.op_le)

      pub views-go : Wrote (calls_first first t ++ start_views_of u log) out (take w o ++ (part ++ drop (length o - w) (drop w o))) (w + k)
      unfolding size_of
      views-go =
          record {
            bytes = over-lend (calls_first first t) (start_views_of u log) out w (sym b.count) b.bytes d.bytes;
            count = omega (arith, calls_count, views-count, all-long);
          }

-- ---- acks anew

-- of what stands over a front, a middle written anew
module _ (x y y' z a : List ℕ) (e : length y ≡ length y') where
  in-turn : (d : List ℕ) → x ++ y ++ z ++ d ≡ x ++ (y ++ (z ++ d))
  in-turn d = append_assoc (x ++ y) z d ∙ append_assoc x y (z ++ d)

  as_long : length (x ++ y ++ z) ≡ length (x ++ y' ++ z)
  as_long = rw (length-append (x ++ y) z, length-append (x ++ y') z, length-append x y, length-append x y', e)

  put-middle : (n : ℕ) → length x ≡ n → put_at n y' (over (x ++ y ++ z) a) ≡ over (x ++ y' ++ z) a
  unfolding put_at over
  put-middle n h =
      let d = drop (length (x ++ y ++ z)) a in
      let r = z ++ d in
      rw (
        in-turn d,
        take_at x (y ++ r) n h,
        drop_at x (y ++ r) n h,
        drop_at y r (length y') e,
        append_assoc (x ++ y') z,
        append_assoc x y',
        as_long,
      )

module _ (u : Replica) (acks : List ℕ) (l : u.commit.0 ≤ u.op.0) (g : u.op.0 ≤ u.setup.room) where
  none-split : replicate {A = ℕ} u.setup.room 0
      ≡ replicate u.commit.0 0 ++ replicate (u.op.0 - u.commit.0) 0 ++ replicate (u.setup.room - u.op.0) 0
  none-split =
      let e : u.commit.0 + (u.op.0 - u.commit.0) ≡ u.op.0 = omega arith in
      let f : u.op.0 + (u.setup.room - u.op.0) ≡ u.setup.room = omega arith in
      rw (
        replicate-append-replicate {A = ℕ} u.commit.0 (u.op.0 - u.commit.0) 0,
        e,
        replicate-append-replicate {A = ℕ} u.op.0 (u.setup.room - u.op.0) 0,
        f,
      )

  pub acks-anew : (c b : ℕ) (cur part : List ℕ) → c ≡ ack_place u.commit.0 → cur ≡ over (replicate u.setup.room 0) acks → b ≡ with_member 0 u.setup.id
      → part ≡ over (replicate (u.op.0 - u.commit.0) b) (take (length cur - c) (drop c cur))
      → take c cur ++ (part ++ drop (length cur - c) (drop c cur)) ≡ over (own_acks u) acks
  unfolding own_acks
  acks-anew c b cur part h p e q =
      let k = u.op.0 - u.commit.0 in
      let z = replicate {A = ℕ} (u.setup.room - u.op.0) 0 in
      let x = replicate {A = ℕ} u.commit.0 0 in
      put-part cur (replicate k b) c q
      ∙ ap (λ (a : ℕ). put_at a (replicate k b) cur) h
      ∙ (ap (put_at u.commit.0 (replicate k b)) (p ∙ ap (λ (w : List ℕ). over w acks) none-split)
      ∙ (put-middle x (replicate {A = ℕ} k 0) (replicate k b) z acks (length-replicate {A = ℕ} k 0 ∙ sym (length-replicate k b))
      u.commit.0 (length-replicate {A = ℕ} u.commit.0 0)
      ∙ ap (λ (d : ℕ). over (x ++ replicate k d ++ z) acks) e))

-- ---- begin: n is the state after enter_normal, e with the installed log of o entries, u with the commits up to g

module _ (t : Replica) (o g : Op) (log results totals : List ℕ) (h : Sound (entered t o) (runs log results totals)) (l : g.0 ≤ o.0)
    (n e : Replica) (p : n ≡ normal_in t t.view) (q : e ≡ with_log n o t.commit) where
  enters : e ≡ entered t o
  enters = q ∙ λ i. with_log (p i) o t.commit

  -- what steps::commit_up_to asks
  pub entered-sound : Sound e (runs log results totals) × (g.0 ≤ e.op.0)
  entered-sound = subst (λ (s : Replica). Sound s (runs log results totals) × (g.0 ≤ s.op.0)) (sym enters) (h, l)

  module _ (u : Replica) (r : u ≡ committed_to e g (runs log results totals)) where
    after : u ≡ committed_to (entered t o) g (runs log results totals)
    after = r ∙ λ i. committed_to (enters i) g (runs log results totals)

    rises : u.commit.0 ≡ max t.commit.0 g.0
    rises = ap (λ (s : Replica). s.commit.0) after

    count-is : u.commit.0 - t.commit.0 ≡ owed t g
    count-is = omega (arith, rises)

    pub no_less : t.commit.0 ≤ u.commit.0
    no_less = omega (arith, rises)

    pub count_small : 36 * (u.commit.0 - t.commit.0) ≤ 147456
    count_small = omega (arith, count-is, l, h.op_le, (sized t.setup h.sized).room-high)

    -- what book::write_replies asks; m is the length of the results after the commits, k the room for replies
    pub replies-fit : (m k : ℕ) → m ≡ length results → 36 * owed t g ≤ k
        → (t.commit.0 + (u.commit.0 - t.commit.0) ≤ 4096)
        × ((36 * (u.commit.0 - t.commit.0) ≤ k)
        × ((9 * (t.commit.0 + (u.commit.0 - t.commit.0)) ≤ m)
        × (entry_place (t.commit.0 + (u.commit.0 - t.commit.0)) ≤ length log)))
    replies-fit m k f c =
        let z = sized t.setup h.sized in
        let x : t.commit.0 + (u.commit.0 - t.commit.0) ≤ t.setup.room = omega (arith, rises, l, h.commit-le, h.op_le) in
        let y = place_mono (t.commit.0 + (u.commit.0 - t.commit.0)) t.setup.room x in (
          omega (arith, x, z.room-high),
          (
            omega (arith, count-is, c),
            (omega (arith, x, f, h.results-long), omega (arith, y, place_is t.setup.room, h.log-long)),
          ),
        )

    -- what own_acks asks
    pub acks-ask : (acks : List ℕ) → length acks ≡ acks_length t.setup
        → (setup_ok u.setup ≡ true)
        × ((u.commit.0 ≤ u.op.0) × ((u.op.0 ≤ u.setup.room) × (length acks ≡ acks_length u.setup)))
    acks-ask acks f =
        subst
        (λ (s : Replica).
        (setup_ok s.setup ≡ true)
        × ((s.commit.0 ≤ s.op.0) × ((s.op.0 ≤ s.setup.room) × (length acks ≡ acks_length s.setup))))
        (sym after)
        (h.sized, (omega (arith, l, h.commit-le), (h.op_le, f)))

    holding : LogHeld u (length log)
    holding =
        subst (λ (s : Replica). LogHeld s (length log)) (sym after)
        (record { sized = h.sized; op_le = h.op_le; log-long = h.log-long })

    -- what send_start_views asks; k is the room for messages
    pub sends-ask : (first : Bool) (k : ℕ) → first_length first t + start_views_length (entered t o) ≤ k
        → (setup_ok t.setup ≡ true) × (LogHeld u (length log) × (first_length first t + start_views_length u ≤ k))
    sends-ask first k f = (
      h.sized,
      (holding, subst (λ (s : Replica). first_length first t + start_views_length s ≤ k) (sym after) f),
    )

    pub begins : (first : Bool) (acks out reps : List ℕ) (a : Returned) (w : ℕ) (rs ts ks os ps : List ℕ)
        → runs log rs ts ≡ settled e g (runs log results totals)
        → ps ≡ over (replies t.view log rs t.commit.0 (u.commit.0 - t.commit.0)) reps
        → ks ≡ over (own_acks u) acks
        → Wrote (calls_first first t ++ start_views_of u log) out os w
        → a ≡ completed u w (36 * (u.commit.0 - t.commit.0)) true
        → begun a (money rs ts) ks os ps ≡ begin_step t o g first log (money results totals) acks out reps
    unfolding begin_step begun_in settled
    begins first acks out reps a w rs ts ks os ps c d f b z =
        let m = ap (λ (x : Runs). x.money) (c ∙ λ i. settled (enters i) g (runs log results totals)) in
        let k = b.count ∙ all-long t u first log out h.sized holding in
        let x = z ∙ λ i. completed u (k i) (36 * count-is i) true in
        let y = x ∙ λ i. completed (after i) (first_length first t + start_views_length (after i)) (36 * owed t g) true in
        let v = d ∙ λ i. over (replies t.view log (m i).results t.commit.0 (count-is i)) reps in
        let s = f ∙ λ i. over (own_acks (after i)) acks in
        let j = b.bytes ∙ λ i. over (calls_first first t ++ start_views_of (after i) log) out in
        λ i. begun (y i) (m i) (s i) (j i) (v i)
