-- Laws of the state's bytes.
--     flag-byte, report-codec                         a flag as a byte, a report as a cell of 14
--     put-report, fits_more, all-put     the reports, written one behind the other
--     front, front-takings, front_length              the bytes before the takings
--     bytes-held, state-held                          a state that was written passes and is read back
-- Assumes nothing.
use mathlib.Core.Path.{◌≡◌, refl, sym, ap, ◌∙◌, subst}
use mathlib.Core.Logic.{⊎_elim}
use mathlib.Core.Bool.{Bool, true, false, not}
use mathlib.Core.List.{List, [], ◌∷◌, ◌++◌, append-nil, append_assoc}
use Prim.Native.Nat.{ℕ, zero, suc, ◌+◌, ◌-◌, ◌*◌, ◌^◌, ◌≤◌, ◌<◌}
use native.Mathlib.Numerals.{add-one}
use native.Mathlib.Omega.{arith}
use lib.Dec.{leb}
use lib.ListN.{length, get_or, take, drop, drop_of_length-le, length-append}
use lib.Seq.{drop_at, take-suc, take_all, length-take-le}
use borrow.Author.Tests.{eq-eqb}
use mir.Val.{bool_byte}
use Rattle.numbers.specs.Words.{when◌then◌else◌}
use Rattle.numbers.specs.Numbers.{big, num, over}
use Rattle.numbers.specs.Cells.{cells, packed, Codec}
use Rattle.numbers.proofs.WordLaws.{if-false, and-true}
use Rattle.numbers.proofs.NumberLaws.{be-big, length-big, num-front, num-drop, eq-or-not}
use Rattle.numbers.proofs.RunLaws.{over-lend}
use Rattle.numbers.proofs.CellLaws.{cells-one, packed-append, packed-length}
use Rattle.frames.specs.declared.Status.{Status}
use Rattle.frames.specs.declared.Status.TheVariants.{Normal, StateTransfer, ViewChange, Recovering}
use Rattle.state.specs.Statuses.{no_report}
use Rattle.state.specs.declared.Replica.{Replica}
use Rattle.state.specs.declared.Report.{Report}
use Rattle.state.specs.declared.Reports.{Reports}
use Rattle.frames.specs.Looks.{status_number}
use Rattle.state_bytes.specs.Layout.{flag_ok, flag_of, flag_number, status_of, setup_of, encode_setup, clock_of, encode_clock}
use Rattle.state_bytes.specs.Layout.{report_in, encode_report, ReportFits, reports_of, encode_reports, all_reports_ok}
use Rattle.state_bytes.specs.Layout.{state_of, encode_place, encode_votes, encode_state, StateFits, front_ok, state_ok, HoldsState}

-- ---- a report as a cell

length-report : (d : Report) → length (encode_report d) ≡ 14
unfolding encode_report big
length-report d = refl

report-front : (x y : List ℕ) → 14 ≤ length x → report_in (x ++ y) ≡ report_in x
unfolding report_in
report-front x y h =
    rw (
      num-front 1 0 x y (omega arith),
      num-front 1 1 x y (omega arith),
      num-front 4 2 x y (omega arith),
      num-front 4 6 x y (omega arith),
      num-front 4 10 x y (omega arith),
    )

-- a flag as a byte
pub flag-byte : (b : Bool) → bool_byte b ≡ flag_number b
unfolding flag_number
flag-byte true = refl
flag-byte false = refl

-- and read
flag-back : (b : Bool) → flag_of (num 1 0 (big 1 (flag_number b))) ≡ b
unfolding flag_of flag_number num big
flag-back true = refl
flag-back false = refl

report-back : (d : Report) (rest : List ℕ) → ReportFits d → report_in (encode_report d ++ rest) ≡ d
unfolding report_in encode_report big num
report-back d rest f =
    λ i. record {
      there = flag-back d.there i;
      full = flag-back d.full i;
      view = record { 0 = be-big 4 d.view.0 f.view i };
      op = record { 0 = be-big 4 d.op.0 f.op i };
      commit = record { 0 = be-big 4 d.commit.0 f.commit i };
    }

pub report-codec : Codec 14 report_in encode_report ReportFits
report-codec = record { width = length-report; front = report-front; back = report-back }

-- ---- the reports, written one behind the other

module _ (t : Reports) (a : List ℕ) (seven : length t.rows ≡ 7) where
  first-length : (i : ℕ) → i ≤ 7 → length (packed encode_report (take i t.rows)) ≡ 14 * i
  first-length i h =
      packed-length 14 report_in encode_report ReportFits report-codec (take i t.rows)
      ∙ ap (λ (k : ℕ). 14 * k) (length-take-le i t.rows (omega arith))

  -- one more
  pub put-report : {cur part : List ℕ} {d : Report} (i : ℕ) → i < 7 → d ≡ get_or t.rows i no_report
      → cur ≡ over (packed encode_report (take i t.rows)) a → part ≡ over (encode_report d) (take (length cur - 14 * i) (drop (14 * i) cur))
      → take (14 * i) cur ++ (part ++ drop (length cur - 14 * i) (drop (14 * i) cur)) ≡ over (packed encode_report (take (i + 1) t.rows)) a
  unfolding packed
  put-report {cur} {part} {d} i h e p q =
      let w = packed encode_report (take i t.rows) in
      let more : packed encode_report (take (i + 1) t.rows) ≡ w ++ packed encode_report (d ∷ []) =
      rw (add-one, take-suc t.rows i no_report (omega arith), e) (packed-append encode_report (take i t.rows) (get_or t.rows i no_report ∷ [])) in
      rw (more, append-nil (encode_report d)) (over-lend w (encode_report d) a (14 * i) (first-length i (omega arith)) p q)

  pub fits_more : (i : ℕ) → ((j : ℕ) → j < i → ReportFits (get_or t.rows j no_report)) → ReportFits (get_or t.rows i no_report)
      → (j : ℕ) → j < i + 1 → ReportFits (get_or t.rows j no_report)
  fits_more i f g j h =
      ⊎_elim (λ e. subst (λ (k : ℕ). ReportFits (get_or t.rows k no_report)) (sym e) g) (λ n. f j (omega (arith, n))) (eq-or-not j i)

  pub all-put : {cur : List ℕ} → cur ≡ over (packed encode_report (take 7 t.rows)) a → cur ≡ over (encode_reports t) a
  unfolding encode_reports
  all-put p = rw (take_all 7 t.rows (omega arith)) at p

-- ---- what was written passes and is read back

rows_back : (k : ℕ) (l : List Report) (w : List ℕ) → length l ≡ k → ((i : ℕ) → i < k → ReportFits (get_or l i no_report))
    → cells 14 report_in k (packed encode_report l ++ w) ≡ l
unfolding packed cells
rows_back zero [] w e f = refl
rows_back zero (d ∷ l) w e f = absurd (omega arith)
rows_back (suc k) [] w e f = absurd (omega arith)
rows_back (suc k) (d ∷ l) w e f =
    ap (cells 14 report_in (suc k)) (append_assoc (encode_report d) (packed encode_report l) w)
    ∙ cells-one 14 report_in encode_report ReportFits report-codec k d (packed encode_report l ++ w) (f 0 (omega arith))
    ∙ ap (λ (x : List Report). d ∷ x) (rows_back k l w (omega arith) (λ i h. f (suc i) (omega arith)))

flag-passes : (b : Bool) → flag_ok (num 1 0 (big 1 (flag_number b))) ≡ true
unfolding flag_ok flag_number num big
flag-passes true = refl
flag-passes false = refl

status-passes : (x : Status) → leb (num 1 0 (big 1 (status_number x))) 3 ≡ true
unfolding num big
status-passes Normal = refl
status-passes StateTransfer = refl
status-passes ViewChange = refl
status-passes Recovering = refl

status-back : (x : Status) → status_of (num 1 0 (big 1 (status_number x))) ≡ x
unfolding status_of num big when◌then◌else◌
status-back Normal = refl
status-back StateTransfer = refl
status-back ViewChange = refl
status-back Recovering = refl

there-passes : (d : Report) (t : List ℕ) → flag_ok (num 1 0 (encode_report d ++ t)) ≡ true
unfolding encode_report num big
there-passes d t = flag-passes d.there

full-passes : (d : Report) (t : List ℕ) → flag_ok (num 1 1 (encode_report d ++ t)) ≡ true
unfolding encode_report num big
full-passes d t = flag-passes d.full

rows_pass : (k : ℕ) (l : List Report) (w : List ℕ) → length l ≡ k → all_reports_ok k (packed encode_report l ++ w) ≡ true
unfolding packed all_reports_ok
rows_pass zero l w e = refl
rows_pass (suc k) [] w e = absurd (omega arith)
rows_pass (suc k) (d ∷ l) w e =
    let t = packed encode_report l ++ w in
    let same : (encode_report d ++ packed encode_report l) ++ w ≡ encode_report d ++ t = append_assoc (encode_report d) (packed encode_report l) w in
    let more : all_reports_ok k (drop 14 (encode_report d ++ t)) ≡ true =
    rw (drop_at (encode_report d) t 14 (length-report d)) (rows_pass k l w (omega arith)) in
    rw same (and-true _ _ (there-passes d t) (and-true _ _ (full-passes d t) more))

-- the bytes before the takings, which stand last
abbrev pub front : Replica → List ℕ
front s = encode_setup s.setup ++ encode_place s ++ encode_clock s.clock ++ encode_votes s ++ encode_reports s.reports

pub front-takings : (s : Replica) → front s ++ big 8 s.takings ≡ encode_state s
unfolding encode_state encode_setup encode_place encode_clock encode_votes big
front-takings s = refl

number-back : (x : ℕ) → x < 2 ^ 64 → num 8 0 (big 8 x) ≡ x
unfolding num big
number-back x h = be-big 8 x h

module _ (s : Replica) (f : StateFits s) where
  pub reports-length : length (encode_reports s.reports) ≡ 98
  unfolding encode_reports
  reports-length =
      packed-length 14 report_in encode_report ReportFits report-codec s.reports.rows ∙ ap (λ (k : ℕ). 14 * k) f.reports.seven

  pub front_length : length (front s) ≡ 146
  unfolding encode_setup encode_place encode_clock encode_votes big
  front_length = omega (arith, reports-length)

  pub state-length : length (encode_state s) ≡ 154
  state-length =
      ap length (sym (front-takings s)) ∙ length-append (front s) (big 8 s.takings)
      ∙ ap (λ (k : ℕ). k + length (big 8 s.takings)) front_length ∙ ap (λ (k : ℕ). 146 + k) (length-big 8 s.takings)

  state-passes : state_ok (encode_state s) ≡ true
  unfolding state_ok front_ok encode_state encode_setup encode_place encode_clock encode_votes encode_reports big num
  state-passes =
      and-true _ _
      (if-false _ _ _ (ap not (eq-eqb _ _ state-length))
      ∙ and-true _ _ (status-passes s.status)
      (and-true _ _ (flag-passes s.catching) (and-true _ _ (flag-passes s.clock.heard) (flag-passes s.sent))))
      (rows_pass 7 s.reports.rows (big 8 s.takings) f.reports.seven)

  takings-back : num 8 146 (encode_state s) ≡ s.takings
  takings-back =
      ap (num 8 146) (sym (front-takings s)) ∙ sym (num-drop 8 146 0 (front s ++ big 8 s.takings))
      ∙ ap (num 8 0) (drop_at (front s) (big 8 s.takings) 146 front_length) ∙ number-back s.takings f.takings

  state-back : state_of (encode_state s) ≡ s
  unfolding state_of setup_of clock_of reports_of encode_state encode_setup encode_place encode_clock encode_votes encode_reports big num
  state-back =
      λ i. record {
        setup = record {
          n = be-big 1 s.setup.n f.n i;
          id = be-big 1 s.setup.id f.id i;
          timeout = be-big 2 s.setup.timeout f.timeout i;
          room = be-big 4 s.setup.room f.room i;
          members = be-big 4 s.setup.members f.members i;
        };
        status = status-back s.status i;
        view = record { 0 = be-big 4 s.view.0 f.view i };
        normal = record { 0 = be-big 4 s.normal.0 f.normal i };
        catching = flag-back s.catching i;
        op = record { 0 = be-big 4 s.op.0 f.op i };
        commit = record { 0 = be-big 4 s.commit.0 f.commit i };
        takings = takings-back i;
        clock = record {
          heard = flag-back s.clock.heard i;
          waiting = be-big 4 s.clock.waiting f.waiting i;
          stable = be-big 2 s.clock.stable f.stable i;
          attempts = be-big 1 s.clock.attempts f.attempts i;
        };
        starts = be-big 1 s.starts f.starts i;
        sent = flag-back s.sent i;
        nonce = be-big 8 s.nonce f.nonce i;
        reports = record { rows = rows_back 7 s.reports.rows (big 8 s.takings) f.reports.seven f.reports.each i };
      }

  pub bytes-held : {run : List ℕ} → run ≡ encode_state s → HoldsState s run
  bytes-held e = record { bytes = e; ok = rw e state-passes; back = rw e state-back }

  pub state-held : {run : List ℕ} (before : List ℕ) → length before ≡ 154 → run ≡ over (encode_state s) before → HoldsState s run
  unfolding over
  state-held before l p =
      bytes-held (p ∙ rw (drop_of_length-le before {i = length (encode_state s)} (omega (arith, state-length)), append-nil (encode_state s)))
