-- A run that passes, written anew in part.
--     setup-front, place-front, status-front    the parts that stay
--     onward-front, onward-long                 the bytes before the takings, which are written last
--     onward-held, clocked-held                 the run holds the state that is further on, and that with another clock
-- Assumes nothing.
use mathlib.Core.Path.{◌≡◌, refl, sym, ap, ◌∙◌, subst}
use mathlib.Core.Bool.{Bool, true}
use mathlib.Core.List.{List, ◌++◌}
use Prim.Native.Nat.{ℕ, ◌*◌, ◌^◌, ◌≤◌, ◌<◌}
use native.Mathlib.Omega.{arith}
use lib.ListN.{length, drop, length-drop}
use lib.Seq.{drop_at}
use Rattle.numbers.specs.Numbers.{big, Bytes, over}
use Rattle.numbers.proofs.NumberLaws.{num-lt, drop-bytes}
use Rattle.numbers.proofs.CellLaws.{cells-length, cells-get}
use Rattle.numbers.specs.declared.Op.{Op}
use Rattle.clock.specs.declared.Clock.{Clock}
use Rattle.frames.specs.declared.Status.{Status}
use Rattle.state.specs.State.{with_clock}
use Rattle.state.specs.Statuses.{no_report}
use Rattle.state.specs.declared.Replica.{Replica}
use Rattle.state_bytes.specs.Layout.{flag_number, setup_of, encode_setup, clock_of, encode_clock, report_in, ReportFits, reports_of, ReportsFit}
use Rattle.state_bytes.specs.Layout.{state_of, encode_place, encode_votes, encode_state, StateFits, onward, Onward, Clocked, state_ok, HoldsState}
use Rattle.state_bytes.proofs.LayoutLaws.{front, front-takings, front_length, state-length, bytes-held, state-held}
use Rattle.state_bytes.proofs.ReadLaws.{state-long}
use Rattle.state_bytes.proofs.WholeLaws.{state-whole}

-- ---- what is read from bytes fits

report-fits : (s : List ℕ) → Bytes s → 14 ≤ length s → ReportFits (report_in s)
unfolding report_in
report-fits s b h = record { view = num-lt 4 2 s b (omega arith); op = num-lt 4 6 s b (omega arith); commit = num-lt 4 10 s b (omega arith) }

reports-fit : (s : List ℕ) → Bytes s → 98 ≤ length s → ReportsFit (reports_of s)
unfolding reports_of
reports-fit s b h =
    record {
      seven = cells-length 14 report_in 7 s;
      each = λ i l. subst ReportFits (sym (cells-get 14 report_in 7 s i no_report l))
          (report-fits (drop (14 * i) s) (drop-bytes (14 * i) s b) (rw length-drop (omega arith)));
    }

-- the state of a run, but for its status, op and commit number, takings and clock
state-fits : (s : List ℕ) → Bytes s → length s ≡ 154 → (x : Status) (o k : Op) (w : ℕ) (h : Bool) (c : Clock) → o.0 < 2 ^ 32 → k.0 < 2 ^ 32
    → w < 2 ^ 64 → c.waiting < 2 ^ 32 → c.stable < 2 ^ 16 → c.attempts < 2 ^ 8 → StateFits (with_clock (onward (state_of s) x o k w h) c)
unfolding state_of setup_of
state-fits s b l x o k w h c op commit takings waiting stable attempts =
    record {
      n = num-lt 1 0 s b (omega arith);
      id = num-lt 1 1 s b (omega arith);
      timeout = num-lt 2 2 s b (omega arith);
      room = num-lt 4 4 s b (omega arith);
      members = num-lt 4 8 s b (omega arith);
      view = num-lt 4 13 s b (omega arith);
      normal = num-lt 4 17 s b (omega arith);
      op = op;
      commit = commit;
      takings = takings;
      waiting = waiting;
      stable = stable;
      attempts = attempts;
      starts = num-lt 1 38 s b (omega arith);
      nonce = num-lt 8 40 s b (omega arith);
      reports = reports-fit (drop 48 s) (drop-bytes 48 s b) (rw length-drop (omega arith));
    }

-- ---- bytes written over those of a state

over-same : (ps t : List ℕ) → over ps (ps ++ t) ≡ ps ++ t
unfolding over
over-same ps t = ap (λ (r : List ℕ). ps ++ r) (drop_at ps t (length ps) refl)

module _ (a : Replica) where
  status-bytes : (k : ℕ) → over (encode_setup a.setup ++ big 1 k) (encode_state a)
      ≡ over (encode_setup a.setup ++ big 1 k ++ big 4 a.view.0 ++ big 4 a.normal.0 ++ big 1 (flag_number a.catching)) (encode_state a)
  unfolding over encode_state encode_setup encode_place big
  status-bytes k = refl

  -- the takings still as they were
  onward-bytes : (x : Status) (o k : Op) (h : Bool)
      → over ((encode_setup a.setup ++ encode_place (onward a x o k a.takings h)) ++ big 1 (flag_number h)) (encode_state a)
      ≡ encode_state (onward a x o k a.takings h)
  unfolding over encode_state encode_setup encode_place encode_clock encode_votes big
  onward-bytes x o k h = refl

  -- and written anew
  takings-bytes : (x : Status) (o k : Op) (w v : ℕ) (h : Bool) → front (onward a x o k w h) ++ big 8 v ≡ encode_state (onward a x o k v h)
  unfolding encode_state encode_setup encode_place encode_clock encode_votes big
  takings-bytes x o k w v h = refl

  clocked-bytes : (c : Clock)
      → over ((encode_setup a.setup ++ encode_place a) ++ encode_clock c) (encode_state a) ≡ encode_state (with_clock a c)
  unfolding over encode_state encode_setup encode_place encode_clock encode_votes big
  clocked-bytes c = refl

-- ---- the same of a run that passes

module _ (run : List ℕ) (b : Bytes run) (ok : state_ok run ≡ true) where
  over-whole : (w : List ℕ) {r : List ℕ} → over w (encode_state (state_of run)) ≡ r → over w run ≡ r
  over-whole w e = ap (over w) (sym (state-whole run b ok)) ∙ e

  pub setup-front : run ≡ over (encode_setup (state_of run).setup) run
  unfolding over encode_state encode_setup big
  setup-front = sym (over-whole (encode_setup (state_of run).setup) (state-whole run b ok))

  pub place-front : run ≡ over (encode_setup (state_of run).setup ++ encode_place (state_of run)) run
  unfolding over encode_state encode_setup encode_place big
  place-front = sym (over-whole (encode_setup (state_of run).setup ++ encode_place (state_of run)) (state-whole run b ok))

  -- behind a status that is written anew, view, last normal view and catching up stand as they were
  pub status-front : {j k : ℕ} → j ≡ k → {cur : List ℕ} → cur ≡ over (encode_setup (state_of run).setup ++ big 1 j) run → let s = state_of run in
      cur ≡ over (encode_setup s.setup ++ big 1 k ++ big 4 s.view.0 ++ big 4 s.normal.0 ++ big 1 (flag_number s.catching)) run
  status-front {j} {k} h e =
      let a = state_of run in
      e ∙ ap (λ (i : ℕ). over (encode_setup a.setup ++ big 1 i) run) h ∙ over-whole _ (status-bytes a k ∙ ap (over _) (state-whole run b ok))

  -- a state further on in the view of the run's, with takings w
  module _ (x : Status) (o k : Op) (h : Bool) (p : o.0 < 2 ^ 32) (q : k.0 < 2 ^ 32) where
    onward-fits : (w : ℕ) → w < 2 ^ 64 → StateFits (onward (state_of run) x o k w h)
    unfolding state_of clock_of
    onward-fits w f =
        let r = drop 30 run in
        let c = drop-bytes 30 run b in
        let l = state-long run ok in
        let m : length r ≡ 124 = rw length-drop (omega arith) in
        state-fits run b l x o k w true (onward (state_of run) x o k w h).clock p q f
        (num-lt 4 1 r c (omega arith)) (num-lt 2 5 r c (omega arith)) (num-lt 1 7 r c (omega arith))

    old-fit : (state_of run).takings < 2 ^ 64
    unfolding state_of
    old-fit = let l = state-long run ok in num-lt 8 146 run b (omega arith)

    abbrev old : Replica
    old = onward (state_of run) x o k (state_of run).takings h

    -- all is written but the takings: the bytes before them, and those behind which they come
    pub onward-front : {cur : List ℕ}
        → cur ≡ over ((encode_setup (state_of run).setup ++ encode_place (onward (state_of run) x o k (state_of run).takings h)) ++ big 1 (flag_number h)) run
        → let y = onward (state_of run) x o k (state_of run).takings h in cur ≡ over (front y) (encode_state y)
    onward-front e =
        e ∙ over-whole _ (onward-bytes (state_of run) x o k h) ∙ sym (front-takings old)
        ∙ sym (over-same (front old) (big 8 old.takings)) ∙ ap (over (front old)) (front-takings old)

    pub onward-long : let y = onward (state_of run) x o k (state_of run).takings h in length (front y) ≡ 146
    onward-long = front_length old (onward-fits (state_of run).takings old-fit)

    pub onward-held : {t : Replica} → Onward (state_of run) t → t.status ≡ x → t.op ≡ o → t.commit ≡ k → t.clock.heard ≡ h → t.takings < 2 ^ 64
        → {after : List ℕ} → let y = onward (state_of run) x o k (state_of run).takings h in
        after ≡ over (front y ++ big 8 t.takings) (encode_state y) → HoldsState t after
    onward-held {t} w sx so sk sh f {after} e =
        let z : t ≡ onward (state_of run) x o k t.takings h = w ∙ λ i. onward (state_of run) (sx i) (so i) (sk i) t.takings (sh i) in
        subst (λ (y : Replica). HoldsState y after) (sym z)
        (state-held _ (onward-fits t.takings f) (encode_state old) (state-length old (onward-fits (state_of run).takings old-fit))
        (e ∙ ap (λ (v : List ℕ). over v (encode_state old)) (takings-bytes (state_of run) x o k (state_of run).takings t.takings h)))

  pub clocked-held : {t : Replica} → Clocked (state_of run) t → t.clock.waiting < 2 ^ 32 → t.clock.stable < 2 ^ 16 → t.clock.attempts < 2 ^ 8
      → {after : List ℕ} → after ≡ over ((encode_setup (state_of run).setup ++ encode_place (state_of run)) ++ encode_clock t.clock) run
      → HoldsState t after
  unfolding state_of
  clocked-held {t} w p q r {after} e =
      let s = state_of run in
      let l = state-long run ok in
      let fits = state-fits run b l s.status s.op s.commit s.takings true t.clock (num-lt 4 22 run b (omega arith)) (num-lt 4 26 run b (omega arith))
      (num-lt 8 146 run b (omega arith)) p q r in
      subst (λ (x : Replica). HoldsState x after) (sym w) (bytes-held _ fits (e ∙ over-whole _ (clocked-bytes s t.clock)))
