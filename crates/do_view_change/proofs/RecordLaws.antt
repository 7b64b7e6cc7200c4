-- Reports recorded: what the calls of the step ask, and each of its ways out.
--     sender-low, keep-asks, decide_asks    a report that is told, among those that were gathered
--     install-asks, begin-asks, keep-room   what was decided says the rest
--     says-no, says-keep, says-start        each way out of `record_step`
--     own-told                              our own report
-- Assumes nothing.
use mathlib.Core.Path.{◌≡◌, sym, ap, ◌∙◌, subst}
use mathlib.Core.Bool.{Bool, true, false}
use mathlib.Core.List.{List}
use mathlib.Core.Logic.{⊎_elim}
use Prim.Native.Nat.{ℕ, ◌+◌, ◌*◌, ◌≤◌, ◌<◌}
use native.Mathlib.Omega.{arith}
use lib.ListN.{length, get_or, set}
use lib.Seq.{get_or-set_same, get_or-set_other}
use Rattle.numbers.specs.Numbers.{Wrote}
use Rattle.numbers.specs.declared.Op.{Op}
use Rattle.numbers.proofs.NumberLaws.{eq-or-not}
use Rattle.config.specs.Setup.{setup_ok}
use Rattle.config.proofs.SetupLaws.{sized}
use Rattle.book.specs.Memory.{money, Memory, memory}
use Rattle.book.proofs.LogLaws.{with-length}
use Rattle.state.specs.State.{with_reports}
use Rattle.state.specs.Statuses.{no_report}
use Rattle.state.specs.Answers.{refusal, completed}
use Rattle.state.specs.Lengths.{acks_length, stored_place}
use Rattle.state.specs.declared.Returned.{Returned}
use Rattle.state.specs.declared.Replica.{Replica}
use Rattle.state.specs.declared.Report.{Report}
use Rattle.state.specs.declared.Reports.{Reports}
use Rattle.state.proofs.LengthLaws.{stored-place-next}
use Rattle.reports.specs.Rows.{with_report}
use Rattle.reports.specs.Judge.{Lies, Fits}
use Rattle.reports.specs.Store.{kept_log, chosen_over}
use Rattle.reports.specs.declared.Best.{Best}
use Rattle.reports.proofs.JudgeLaws.{length-chosen, begin-lies}
use Rattle.reports.proofs.StoreLaws.{install-fits}
use Rattle.steps.proofs.Held.{gathered-rows}
use Rattle.steps.specs.Steps.{Sound}
use Rattle.do_view_change.specs.Begin.{calls_first, first_length, start_views_length, entered, owed, begun, begin_step}
use Rattle.steps.specs.Recorded.{recorded, Gathering}
use Rattle.do_view_change.specs.Record.{Told}
use Rattle.do_view_change.specs.Record.{decided, kept_by, with_begun, started_by, by_decision, record_step}
use Rattle.do_view_change.specs.declared.Decision.{Decision}
use Rattle.do_view_change.specs.declared.Decision.TheVariants.{Keep, No, Start}
use Rattle.do_view_change.proofs.BeginLaws.{first-long}
use Rattle.do_view_change.proofs.DecideLaws.{begins-over, keep-fits, start_fits}
use Rattle.frames.specs.declared.Refusal.{Refusal}

-- the log that is installed is one that fits ours, and the areas have room for what is sent
record Starts (t : Replica) (r : ℕ) (first : Bool) (fresh : List ℕ) (m : Memory) (b : Best) (g : Op) : Type 0 where
  pub lies : Lies b r t.setup.room m.stored fresh
  pub commit-le : t.commit.0 ≤ b.report.op.0
  pub within : g.0 ≤ b.report.op.0
  pub messages : first_length first t + start_views_length (entered t b.report.op) ≤ length m.out
  pub replies : 36 * owed t g ≤ length m.reps

-- u the rows with the report d of replica r, j what was decided
module _ (s t : Replica) (r : ℕ) (d : Report) (first : Bool) (fresh : List ℕ) (m : Memory) (u : Reports)
    (eu : u ≡ with_report t.reports r d) where
  abbrev decision : Decision
  decision = decided t u r first (length m.out) (length m.reps) m.runs.log m.stored fresh

  -- what the calls ask
  module _ (h : Gathering t m) (k : Told t r d.op d.commit fresh) where
    pub sender-low : r < 7
    sender-low = let z = sized t.setup h.sound.sized in omega (arith, z.seven, k.sender)

    pub keep-asks : (t.setup.room ≤ 4096)
        × ((r < 7)
        × ((d.op.0 ≤ t.setup.room)
        × ((stored_place t.setup.room r + 32 * d.op.0 ≤ length m.stored) × (32 * d.op.0 ≤ length fresh))))
    keep-asks =
        let z = sized t.setup h.sound.sized in
        let p = stored-place-next t.setup.room r t.setup.n d.op.0 k.sender k.op_le in
        (z.room-high, (sender-low, (k.op_le, (omega (arith, p, h.stored-long), k.long))))

    module _ (seven : length t.reports.rows ≡ 7) where
      fits : Fits (with_report t.reports r d) t.setup.n r t.setup.room m.stored fresh
      fits =
          let z = sized t.setup h.sound.sized in
          record {
            few = z.seven;
            some = omega (arith, z.three);
            small = z.room-high;
            held = omega (arith, h.stored-long);
            rows = each;
            new = subst (λ (x : Report). 32 * x.op.0 ≤ length fresh) (sym here) k.long;
          }
        where
          here : get_or (set t.reports.rows r d) r no_report ≡ d
          here = get_or-set_same t.reports.rows r d no_report (omega (arith, seven, sender-low))

          each : (i : ℕ) → i < t.setup.n → (get_or (set t.reports.rows r d) i no_report).there ≡ true
              → (get_or (set t.reports.rows r d) i no_report).op.0 ≤ t.setup.room
          each i lt e =
              ⊎_elim
              (λ q.
              subst (λ (x : Report). x.op.0 ≤ t.setup.room) (sym (ap (λ (j : ℕ). get_or (set t.reports.rows r d) j no_report) q ∙ here))
              k.op_le)
              (λ q.
              let o = get_or-set_other t.reports.rows r i d no_report q in
              subst (λ (x : Report). x.op.0 ≤ t.setup.room) (sym o)
              (gathered-rows t.setup t.starts t.reports.rows h.reports i lt
              (subst (λ (x : Report). x.there ≡ true) o e)).0)
              (eq-or-not i r)

      gathered : Fits u t.setup.n r t.setup.room m.stored fresh
      gathered = subst (λ (x : Reports). Fits x t.setup.n r t.setup.room m.stored fresh) (sym eu) fits

      pub decide_asks : (setup_ok t.setup ≡ true)
          × (Fits u t.setup.n r t.setup.room m.stored fresh × (32 * t.commit.0 ≤ length m.runs.log))
      decide_asks = (h.sound.sized, (gathered, omega (arith, h.sound.commit-le, h.sound.op_le, h.sound.log-long)))

      module _ (j : Decision) (ej : j ≡ decision) (b : Best) (g : Op) (e : j ≡ Start b g) where
        starts : Starts t r first fresh m b g
        starts =
            let p = start_fits t u r first (length m.out) (length m.reps) m.runs.log m.stored fresh j ej b g e in
            let q = begins-over u t.setup.n r t.setup.room t.commit.0 m.runs.log m.stored fresh b g p.0 in
            record {
              lies = begin-lies u t.setup.n r t.setup.room t.commit.0 m.runs.log m.stored fresh gathered b g p.0;
              commit-le = q.1;
              within = q.0;
              messages = p.1.0;
              replies = p.1.1;
            }

        pub install-asks : Lies b r t.setup.room m.stored fresh × (length m.runs.log ≡ 32 * t.setup.room)
        install-asks = (starts.lies, h.sound.log-long)

        pub begin-asks : (log : List ℕ) → log ≡ chosen_over b r t.setup.room m.stored fresh m.runs.log
            → Sound (entered t b.report.op) (record { log = log; money = m.runs.money })
            × ((g.0 ≤ b.report.op.0)
            × ((length m.acks ≡ acks_length t.setup)
            × ((first_length first t + start_views_length (entered t b.report.op) ≤ length m.out) × (36 * owed t g ≤ length m.reps))))
        unfolding chosen_over
        begin-asks log q =
            let l = starts.lies in
            let i = install-fits b r t.setup.room m.stored fresh m.runs.log l h.sound.log-long in
            let n = with-length 0 b.report.op.0 _ m.runs.log (length-chosen b r t.setup.room m.stored fresh l) i.1 in (
              record {
                sized = h.sound.sized;
                commit-le = starts.commit-le;
                op_le = l.long;
                log-long = ap length q ∙ n ∙ h.sound.log-long;
                results-long = h.sound.results-long;
                totals-long = h.sound.totals-long;
              },
              (starts.within, (h.acks-long, (starts.messages, starts.replies))),
            )

  -- each way out
  module _ (j : Decision) (ej : j ≡ decision) where
    goes : by_decision j s t u r d.op first fresh m ≡ record_step s t r d first fresh m
    unfolding record_step
    goes = rw (← eu, ← ej)

    pub keep-room : j ≡ Keep → first_length first t ≤ length m.out
    keep-room e = keep-fits t u r first (length m.out) (length m.reps) m.runs.log m.stored fresh j ej e

    pub says-no : (k : Refusal) (a : Returned) → j ≡ No k → a ≡ refusal k s → recorded a m ≡ record_step s t r d first fresh m
    unfolding by_decision
    says-no k a e p = ap (λ (x : Returned). recorded x m) p ∙ ap (λ (x : Decision). by_decision x s t u r d.op first fresh m) (sym e) ∙ goes

    pub says-keep : setup_ok t.setup ≡ true → (a : Returned) (t' : Replica) (w : ℕ) (stored out : List ℕ) → j ≡ Keep
        → stored ≡ kept_log t.setup.room r d.op fresh m.stored → Wrote (calls_first first t) m.out out w → t' ≡ with_reports t u
        → a ≡ completed t' w 0 false
        → recorded a (record { runs = m.runs; acks = m.acks; stored = stored; out = out; reps = m.reps })
        ≡ record_step s t r d first fresh m
    unfolding by_decision kept_by
    says-keep ok a t' w stored out e q x y p =
        let c : a ≡ completed (with_reports t u) (first_length first t) 0 false =
        p ∙ λ i. completed (y i) ((x.count ∙ first-long first t ok) i) 0 false in
        (λ i. recorded (c i) (record { runs = m.runs; acks = m.acks; stored = q i; out = x.bytes i; reps = m.reps }))
        ∙ ap (λ (x : Decision). by_decision x s t u r d.op first fresh m) (sym e) ∙ goes

    pub says-start : (b : Best) (g : Op) (a : Returned) (log results totals acks out reps : List ℕ) → j ≡ Start b g
        → log ≡ chosen_over b r t.setup.room m.stored fresh m.runs.log
        → begun a (money results totals) acks out reps ≡ begin_step t b.report.op g first log m.runs.money m.acks m.out m.reps
        → recorded a (memory log results totals acks m.stored out reps) ≡ record_step s t r d first fresh m
    unfolding by_decision started_by
    says-start b g a log results totals acks out reps e q p =
        (λ i.
        with_begun (q i) m.stored
        ((p ∙ λ k. begin_step t b.report.op g first (q k) m.runs.money m.acks m.out m.reps) i))
        ∙ ap (λ (x : Decision). by_decision x s t u r d.op first fresh m) (sym e) ∙ goes

-- our own report
pub own-told : (t : Replica) (m : Memory) → Gathering t m → Told t t.setup.id t.op t.commit m.runs.log
own-told t m h =
    let z = sized t.setup h.sound.sized in
    record {
      sender = z.own;
      op_le = h.sound.op_le;
      commit-le = h.sound.commit-le;
      long = omega (arith, h.sound.op_le, h.sound.log-long);
    }
