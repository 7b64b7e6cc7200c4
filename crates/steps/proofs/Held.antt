-- What refusal 1 asks, kept by the steps that the handlers share.
--     as_it_was, other, moves, back    a state with its own numbers, with those of s, and s beside the runs that were left
--     gathered-rows                    what refusal 1 says of each report
--     settled-held, acked-held         commits, and PrepareOk
--     asked-held, heard-held, transferred-held, deferred-held    messages alone
--     sent-kept, left-kept, still_kept    what a handler leaves
-- Assumes nothing.
use mathlib.Core.Path.{◌≡◌, refl, sym, ap, ◌∙◌}
use mathlib.Core.Bool.{Bool, true}
use mathlib.Core.List.{List}
use Prim.Native.Nat.{ℕ, ◌-◌, max, ◌≤◌, ◌<◌}
use native.Mathlib.Omega.{arith}
use lib.ListN.{length, get_or}
use Rattle.numbers.specs.declared.View.{View}
use Rattle.numbers.specs.declared.Op.{Op}
use Rattle.numbers.proofs.WordLaws.{split}
use Rattle.config.specs.Setup.{setup_ok}
use Rattle.config.specs.declared.Setup.{Setup}
use Rattle.book.proofs.RunLaws.{committed-lengths}
use Rattle.state.specs.State.{heard_by, catching_up_in}
use Rattle.state.specs.Lengths.{log_length, results_length, totals_length, acks_length, stored_length}
use Rattle.state.specs.declared.Returned.{Returned}
use Rattle.state.specs.declared.Replica.{Replica}
use Rattle.state.specs.declared.Report.{Report}
use Rattle.state.specs.Statuses.{no_report}
use Rattle.state.specs.Sound.{gathered_ok}
use Rattle.state.proofs.SoundLaws.{rows-ok-is, gathered-is, none-gathered}
use Rattle.steps.specs.Steps.{Sound, Spoke, Left, committed_to, settled, asked_for_state, transferred, deferred, committed_and_acked}
use Rattle.book.specs.Memory.{Runs, Memory}
use Rattle.steps.specs.declared.Accept.{Accept}
use Rattle.steps.specs.declared.Accept.TheVariants.{Ignore, Hear, Join, Rejoin, Take}
use Rattle.steps.specs.Recorded.{Recorded, recorded, only_sent, Gathering, of_left}

-- the state t and the runs x, in a setup u
pub record Held (u : Setup) (t : Replica) (x : Runs) : Type 0 where
  pub sound : Sound t x
  pub setup : t.setup ≡ u
  pub reports : gathered_ok u t.starts t.reports.rows ≡ true

-- with acks and stored logs
pub record Kept (u : Setup) (d : Recorded) : Type 0 where
  pub held : Held u d.answer.state d.memory.runs
  pub acks-long : length d.memory.acks ≡ acks_length u
  pub stored-long : length d.memory.stored ≡ stored_length u

-- ---- states

-- each report that is there
pub gathered-rows : (u : Setup) (starts : ℕ) (l : List Report) → gathered_ok u starts l ≡ true → (i : ℕ) → i < u.n
    → (get_or l i no_report).there ≡ true → ((get_or l i no_report).op.0 ≤ u.room) × ((get_or l i no_report).commit.0 ≤ (get_or l i no_report).op.0)
gathered-rows u starts l h = rows-ok-is u.room u.n l (gathered-is u starts l h).1

pub as_it_was : {s : Replica} {m : Memory} → Gathering s m → Held s.setup s m.runs
as_it_was h = record { sound = h.sound; setup = refl; reports = h.reports }

module _ {s : Replica} {x : Runs} (h : Held s.setup s x) where
  -- its own numbers and reports
  pub other : (t : Replica) → t.setup ≡ s.setup → t.commit.0 ≤ t.op.0 → t.op.0 ≤ s.setup.room
      → gathered_ok s.setup t.starts t.reports.rows ≡ true → Held s.setup t x
  other t e c o r =
      record {
        sound =
            record {
              sized = ap setup_ok e ∙ h.sound.sized;
              commit-le = c;
              op_le = omega (arith, o, ap (λ (u : Setup). u.room) e);
              log-long = h.sound.log-long ∙ sym (ap log_length e);
              results-long = h.sound.results-long ∙ sym (ap results_length e);
              totals-long = h.sound.totals-long ∙ sym (ap totals_length e);
            };
        setup = e;
        reports = r;
      }

  pub moves : (t : Replica) → t.setup ≡ s.setup → t.op.0 ≡ s.op.0 → t.commit.0 ≡ s.commit.0
      → gathered_ok s.setup t.starts t.reports.rows ≡ true → Held s.setup t x
  moves t e o c r = other t e (omega (arith, h.sound.commit-le, o, c)) (omega (arith, h.sound.op_le, o)) r

  -- the state as it was, with the runs as they were left
  pub back : {t : Replica} {y : Runs} → Held s.setup t y → Held s.setup s y
  back {t} {y} g =
      let e = g.setup in
      record {
        sound =
            record {
              sized = h.sound.sized;
              commit-le = h.sound.commit-le;
              op_le = h.sound.op_le;
              log-long = g.sound.log-long ∙ ap log_length e;
              results-long = g.sound.results-long ∙ ap results_length e;
              totals-long = g.sound.totals-long ∙ ap totals_length e;
            };
        setup = refl;
        reports = h.reports;
      }

  -- ---- messages alone

  pub asked-held : (t : Replica) (at : Op) (out : List ℕ) → Held s.setup t x → Held s.setup (asked_for_state s t at out).answer.state x
  unfolding asked_for_state
  asked-held t at out g = split (λ (d : Spoke). Held s.setup d.answer.state x) _ _ _ (λ _. h) (λ _. g)

  pub heard-held : Held s.setup (heard_by s) x
  heard-held = moves (heard_by s) refl refl refl h.reports

  pub transferred-held : (out : List ℕ) → Held s.setup (transferred s out).answer.state x
  unfolding transferred
  transferred-held out = asked-held _ _ out (moves _ refl refl refl h.reports)

  pub deferred-held : (a : Accept) (v : View) (out : List ℕ) → Held s.setup (deferred a s v out).answer.state x
  unfolding deferred
  deferred-held Ignore v out = h
  deferred-held Hear v out = heard-held
  deferred-held Join v out = asked-held _ _ out (moves (catching_up_in s v) refl refl refl (none-gathered s.setup))
  deferred-held Rejoin v out = asked-held _ _ out (moves (catching_up_in (heard_by s) v) refl refl refl (none-gathered s.setup))
  deferred-held Take v out = h

-- ---- commits

pub settled-held : {u : Setup} {t : Replica} {x : Runs} (k : Op) → Held u t x → k.0 ≤ t.op.0 → Held u (committed_to t k x) (settled t k x)
unfolding settled
settled-held {u} {t} {x} k h l =
    let a = h.sound in
    let n = t.commit.0 in
    let c : max n k.0 ≤ t.op.0 = omega (arith, a.commit-le, l) in
    let p = committed-lengths t.setup.members x.log n (k.0 - n) x.money (omega (arith, a.totals-long))
    (omega (arith, c, a.op_le, a.results-long)) in
    record {
      sound =
          record {
            sized = a.sized;
            commit-le = c;
            op_le = a.op_le;
            log-long = a.log-long;
            results-long = p.0 ∙ a.results-long;
            totals-long = p.1 ∙ a.totals-long;
          };
      setup = h.setup;
      reports = h.reports;
    }

pub acked-held : {s t : Replica} {x y : Runs} (k : Op) (installed : Bool) (out : List ℕ) → Held s.setup s x → Held s.setup t y → k.0 ≤ t.op.0
    → Held s.setup (committed_and_acked s t k installed y out).answer.state (committed_and_acked s t k installed y out).runs
unfolding committed_and_acked
acked-held {s} {t} {x} {y} k installed out h g l =
    split (λ (d : Left). Held s.setup d.answer.state d.runs) _ _ _ (λ _. back h g) (λ _. settled-held k g l)

-- ---- what a handler leaves

module _ {s : Replica} {m : Memory} (h : Gathering s m) where
  pub sent-kept : (d : Spoke) → Held s.setup d.answer.state m.runs → Kept s.setup (only_sent m d)
  sent-kept d g = record { held = g; acks-long = h.acks-long; stored-long = h.stored-long }

  pub left-kept : (d : Left) → Held s.setup d.answer.state d.runs → Kept s.setup (of_left m d)
  left-kept d g = record { held = g; acks-long = h.acks-long; stored-long = h.stored-long }

  -- memory as it was
  pub still_kept : (a : Returned) → Held s.setup a.state m.runs → Kept s.setup (recorded a m)
  still_kept a g = record { held = g; acks-long = h.acks-long; stored-long = h.stored-long }
