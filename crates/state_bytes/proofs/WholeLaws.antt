-- Every byte of a state run has a meaning: a run that passes is the bytes of the state that it holds.
--     state-whole
-- Assumes nothing.
use mathlib.Core.Path.{◌≡◌, refl, sym, ap, ◌∙◌}
use mathlib.Core.Bool.{true, false, not}
use mathlib.Core.List.{List}
use Prim.Native.Nat.{ℕ, zero, suc, ◌+◌, ◌*◌, ◌≤◌}
use native.Mathlib.Omega.{arith}
use lib.Dec.{leb, eqb}
use lib.ListN.{length, take, drop, length-drop}
use lib.Seq.{drop-drop, take-add, take_all}
use borrow.Author.Tests.{leb-true, eq-eqb}
use Rattle.numbers.specs.Words.{when◌then◌else◌, ◌and◌}
use Rattle.numbers.specs.Numbers.{num, big, Bytes}
use Rattle.numbers.specs.Cells.{cells, packed}
use Rattle.numbers.proofs.WordLaws.{if-false, and_both}
use Rattle.numbers.proofs.NumberLaws.{big-num, num-drop, drop-bytes}
use Rattle.frames.specs.Looks.{status_number}
use Rattle.state_bytes.specs.Layout.{flag_ok, flag_of, flag_number, status_of, setup_of, encode_setup, clock_of, encode_clock}
use Rattle.state_bytes.specs.Layout.{report_in, encode_report, reports_of, encode_reports, all_reports_ok}
use Rattle.state_bytes.specs.Layout.{state_of, encode_place, encode_votes, encode_state, front_ok, state_ok}
use Rattle.state_bytes.proofs.ReadLaws.{state-long}

-- ---- every byte of a run that passes has a meaning

flag-kept : (k : ℕ) → flag_ok k ≡ true → flag_number (flag_of k) ≡ k
unfolding flag_ok flag_of flag_number
flag-kept zero h = refl
flag-kept (suc zero) h = refl
flag-kept (suc (suc k)) h = absurd (omega (arith, leb-true (suc (suc k)) 1 h))

status-kept : (k : ℕ) → leb k 3 ≡ true → status_number (status_of k) ≡ k
unfolding status_of when◌then◌else◌
status-kept zero h = refl
status-kept (suc zero) h = refl
status-kept (suc (suc zero)) h = refl
status-kept (suc (suc (suc zero))) h = refl
status-kept (suc (suc (suc (suc k)))) h = absurd (omega (arith, leb-true (suc (suc (suc (suc k)))) 3 h))

setup-whole : (s : List ℕ) → Bytes s → 12 ≤ length s → encode_setup (setup_of s) ≡ take 12 s
unfolding encode_setup setup_of
setup-whole s b h =
    rw (
      big-num 1 0 s b (omega arith),
      big-num 1 1 s b (omega arith),
      big-num 2 2 s b (omega arith),
      big-num 4 4 s b (omega arith),
      big-num 4 8 s b (omega arith),
      ← take-add 1 1 s,
      ← take-add 2 2 s,
      ← take-add 4 4 s,
      ← take-add 8 4 s,
    )

clock-whole : (s : List ℕ) → Bytes s → 8 ≤ length s → flag_ok (num 1 0 s) ≡ true → encode_clock (clock_of s) ≡ take 8 s
unfolding encode_clock clock_of
clock-whole s b h f =
    rw (
      flag-kept (num 1 0 s) f,
      big-num 1 0 s b (omega arith),
      big-num 4 1 s b (omega arith),
      big-num 2 5 s b (omega arith),
      big-num 1 7 s b (omega arith),
      ← take-add 1 4 s,
      ← take-add 5 2 s,
      ← take-add 7 1 s,
    )

report-whole : (s : List ℕ) → Bytes s → 14 ≤ length s → flag_ok (num 1 0 s) ≡ true → flag_ok (num 1 1 s) ≡ true
    → encode_report (report_in s) ≡ take 14 s
unfolding encode_report report_in
report-whole s b h f g =
    rw (
      flag-kept (num 1 0 s) f,
      flag-kept (num 1 1 s) g,
      big-num 1 0 s b (omega arith),
      big-num 1 1 s b (omega arith),
      big-num 4 2 s b (omega arith),
      big-num 4 6 s b (omega arith),
      big-num 4 10 s b (omega arith),
      ← take-add 1 1 s,
      ← take-add 2 4 s,
      ← take-add 6 4 s,
      ← take-add 10 4 s,
    )

rows_whole : (k : ℕ) (s : List ℕ) → Bytes s → 14 * k ≤ length s → all_reports_ok k s ≡ true
    → packed encode_report (cells 14 report_in k s) ≡ take (14 * k) s
unfolding packed cells all_reports_ok
rows_whole zero s b h f = refl
rows_whole (suc k) s b h f =
    let p = and_both (flag_ok (num 1 0 s)) (flag_ok (num 1 1 s) and all_reports_ok k (drop 14 s)) f in
    let q = and_both (flag_ok (num 1 1 s)) (all_reports_ok k (drop 14 s)) p.1 in
    let e : 14 * suc k ≡ 14 + 14 * k = omega arith in
    let l : 14 * k ≤ length (drop 14 s) = simp length-drop (omega arith) in
    rw (
      e,
      take-add 14 (14 * k) s,
      report-whole s b (omega arith) p.0 q.0,
      rows_whole k (drop 14 s) (drop-bytes 14 s b) l q.1,
    )

place-whole : (s : List ℕ) → Bytes s → 30 ≤ length s → leb (num 1 12 s) 3 ≡ true → flag_ok (num 1 21 s) ≡ true
    → encode_place (state_of s) ≡ take 18 (drop 12 s)
unfolding encode_place state_of
place-whole s b h f g =
    let t = drop 12 s in
    rw (
      status-kept (num 1 12 s) f,
      flag-kept (num 1 21 s) g,
      big-num 1 12 s b (omega arith),
      big-num 4 13 s b (omega arith),
      big-num 4 17 s b (omega arith),
      big-num 1 21 s b (omega arith),
      big-num 4 22 s b (omega arith),
      big-num 4 26 s b (omega arith),
      ← drop-drop 1 12 s,
      ← drop-drop 5 12 s,
      ← drop-drop 9 12 s,
      ← drop-drop 10 12 s,
      ← drop-drop 14 12 s,
      ← take-add 1 4 t,
      ← take-add 5 4 t,
      ← take-add 9 1 t,
      ← take-add 10 4 t,
      ← take-add 14 4 t,
    )

votes-whole : (s : List ℕ) → Bytes s → 48 ≤ length s → flag_ok (num 1 39 s) ≡ true → encode_votes (state_of s) ≡ take 10 (drop 38 s)
unfolding encode_votes state_of
votes-whole s b h f =
    let t = drop 38 s in
    rw (
      flag-kept (num 1 39 s) f,
      big-num 1 38 s b (omega arith),
      big-num 1 39 s b (omega arith),
      big-num 8 40 s b (omega arith),
      ← drop-drop 1 38 s,
      ← drop-drop 2 38 s,
      ← take-add 1 1 t,
      ← take-add 2 8 t,
    )

-- what a run that passes says, field by field
record Passes (s : List ℕ) : Type 0 where
  pub long : length s ≡ 154
  pub status : leb (num 1 12 s) 3 ≡ true
  pub catching : flag_ok (num 1 21 s) ≡ true
  pub heard : flag_ok (num 1 30 s) ≡ true
  pub sent : flag_ok (num 1 39 s) ≡ true
  pub reports : all_reports_ok 7 (drop 48 s) ≡ true

passed : (s : List ℕ) → state_ok s ≡ true → Passes s
unfolding state_ok front_ok
passed s h =
    let l = state-long s h in
    let f = and_both _ _ h in
    let p = and_both _ _ (sym (if-false (not (eqb (length s) 154)) false _ (ap not (eq-eqb (length s) 154 l))) ∙ f.0) in
    let q = and_both _ _ p.1 in
    let r = and_both _ _ q.1 in
    record { long = l; status = p.0; catching = q.0; heard = r.0; sent = r.1; reports = f.1 }

-- six parts are the run
parts : (s : List ℕ) → encode_setup (setup_of s) ≡ take 12 s → encode_place (state_of s) ≡ take 18 (drop 12 s)
    → encode_clock (clock_of (drop 30 s)) ≡ take 8 (drop 30 s) → encode_votes (state_of s) ≡ take 10 (drop 38 s)
    → packed encode_report (cells 14 report_in 7 (drop 48 s)) ≡ take 98 (drop 48 s) → big 8 (num 8 146 s) ≡ take 8 (drop 146 s) → length s ≡ 154
    → encode_state (state_of s) ≡ s
unfolding encode_state state_of encode_reports reports_of
parts s p q r t u w l =
    rw (p, q, r, t, u, w, ← take-add 12 18 s, ← take-add 30 8 s, ← take-add 38 10 s, ← take-add 48 98 s, ← take-add 146 8 s) (take_all 154 s (omega arith))

-- the bytes of the state that a passing run holds are the run
pub state-whole : (s : List ℕ) → Bytes s → state_ok s ≡ true → encode_state (state_of s) ≡ s
state-whole s b h =
    let k = passed s h in
    let l = k.long in
    parts s (setup-whole s b (omega arith)) (place-whole s b (omega arith) k.status k.catching)
    (clock-whole (drop 30 s) (drop-bytes 30 s b) (rw length-drop (omega arith)) (rw (num-drop 1 30 0 s) k.heard))
    (votes-whole s b (omega arith) k.sent)
    (rows_whole 7 (drop 48 s) (drop-bytes 48 s b) (rw length-drop (omega arith)) k.reports) (big-num 8 146 s b (omega arith)) l
