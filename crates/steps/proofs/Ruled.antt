-- The entry rules of our log and of each stored one, and what the steps that only send leave of them.
--     has, cleared, still, wrote    what is lent to a state; without reports; the rules with it, and with another log
--     asked-has, transferred-has, deferred-has    messages alone
--     acked-left                    PrepareOk, where there is room for it
-- Assumes nothing.
use Prim.Native.Nat.{ℕ, zero, suc, ◌≤◌, ◌<◌}
use mathlib.Core.Path.{◌≡◌, refl, sym, ◌∙◌}
use mathlib.Core.Bool.{Bool, true, false, false≢true}
use mathlib.Core.List.{List}
use lib.Dec.{ltb}
use lib.ListN.{length, get_or, drop, replicate}
use Rattle.numbers.specs.Numbers.{over}
use Rattle.numbers.specs.declared.View.{View}
use Rattle.numbers.specs.declared.Op.{Op}
use Rattle.numbers.proofs.WordLaws.{split}
use Rattle.entries.specs.Entries.{entries_ok}
use Rattle.config.specs.Setup.{setup_ok}
use Rattle.config.specs.declared.Setup.{Setup}
use Rattle.state.specs.Statuses.{no_report, no_reports}
use Rattle.state.specs.Answers.{completed}
use Rattle.state.specs.Lengths.{stored_place, log_length, stored_length}
use Rattle.state.specs.declared.Replica.{Replica}
use Rattle.state.specs.declared.Report.{Report}
use Rattle.steps.proofs.Held.{gathered-rows}
use Rattle.steps.specs.Steps.{Spoke, Left, left, committed_to, settled, asked_for_state, transferred, deferred, prepare_ok_of, committed_and_acked}
use Rattle.book.specs.Memory.{Runs, Memory}
use Rattle.steps.specs.declared.Accept.{Accept}
use Rattle.steps.specs.declared.Accept.TheVariants.{Ignore, Hear, Join, Rejoin, Take}
use Rattle.steps.specs.Recorded.{Recorded, Gathering, only_sent}

pub record Ruled (s : Replica) (m : Memory) : Type 0 where
  pub log : entries_ok s.op.0 m.runs.log ≡ true
  pub seven : length s.reports.rows ≡ 7
  pub stored :
      (i : ℕ) → i < s.setup.n → (get_or s.reports.rows i no_report).there ≡ true
      → entries_ok (get_or s.reports.rows i no_report).op.0 (drop (stored_place s.setup.room i) m.stored) ≡ true

abbrev pub RuledBy : Recorded → Type 0
RuledBy d = Ruled d.answer.state d.memory

-- the same with the sizes, of a setup, an op number, rows, log and stored logs: all states with these have it
pub record Lent (u : Setup) (op : ℕ) (rows : List Report) (log stored : List ℕ) : Type 0 where
  pub sized : setup_ok u ≡ true
  pub op_le : op ≤ u.room
  pub log-long : length log ≡ log_length u
  pub stored-long : length stored ≡ stored_length u
  pub fits : (i : ℕ) → i < u.n → (get_or rows i no_report).there ≡ true → (get_or rows i no_report).op.0 ≤ u.room
  pub log-ok : entries_ok op log ≡ true
  pub seven : length rows ≡ 7
  pub stored_ok :
      (i : ℕ) → i < u.n → (get_or rows i no_report).there ≡ true
      → entries_ok (get_or rows i no_report).op.0 (drop (stored_place u.room i) stored) ≡ true

abbrev pub Has : Replica → Memory → Type 0
Has s m = Lent s.setup s.op.0 s.reports.rows m.runs.log m.stored

pub has : {s : Replica} {m : Memory} → Gathering s m → Ruled s m → Has s m
has {s} {m} h r =
    record {
      sized = h.sound.sized;
      op_le = h.sound.op_le;
      log-long = h.sound.log-long;
      stored-long = h.stored-long;
      fits = λ i lt t. (gathered-rows s.setup s.starts s.reports.rows h.reports i lt t).0;
      log-ok = r.log;
      seven = r.seven;
      stored_ok = r.stored;
    }

none-there : (k i : ℕ) → (get_or (replicate k no_report) i no_report).there ≡ false
none-there zero i = refl
none-there (suc k) zero = refl
none-there (suc k) (suc i) = none-there k i

no-row : (i : ℕ) → (get_or no_reports.rows i no_report).there ≡ true → ⊥
no-row i t = false≢true (sym (none-there 7 i) ∙ t)

pub cleared : {u : Setup} {op : ℕ} {rows : List Report} {log stored : List ℕ} → Lent u op rows log stored
    → Lent u op no_reports.rows log stored
cleared h =
    record {
      sized = h.sized;
      op_le = h.op_le;
      log-long = h.log-long;
      stored-long = h.stored-long;
      fits = λ i lt t. absurd (no-row i t);
      log-ok = h.log-ok;
      seven = refl;
      stored_ok = λ i lt t. absurd (no-row i t);
    }

pub wrote : {t : Replica} {m : Memory} {op : ℕ} {log : List ℕ} → Lent t.setup op t.reports.rows log m.stored
    → entries_ok t.op.0 m.runs.log ≡ true → Ruled t m
wrote h e = record { log = e; seven = h.seven; stored = h.stored_ok }

pub still : {t : Replica} {m : Memory} → Has t m → Ruled t m
still h = record { log = h.log-ok; seven = h.seven; stored = h.stored_ok }

-- ---- messages alone

module _ (s : Replica) (m : Memory) (h : Has s m) where
  abbrev HasBy : Spoke → Type 0
  HasBy d = Has d.answer.state m

  pub asked-has : (t : Replica) (at : Op) (out : List ℕ) → Has t m → Has (asked_for_state s t at out).answer.state m
  unfolding asked_for_state
  asked-has t at out g = split HasBy _ _ _ (λ _. h) (λ _. g)

  pub transferred-has : (out : List ℕ) → Has (transferred s out).answer.state m
  unfolding transferred
  transferred-has out = asked-has _ _ out h

  pub deferred-has : (a : Accept) (v : View) (out : List ℕ) → Has (deferred a s v out).answer.state m
  unfolding deferred
  deferred-has Ignore v out = h
  deferred-has Hear v out = h
  deferred-has Join v out = asked-has _ _ out (cleared h)
  deferred-has Rejoin v out = asked-has _ _ out (cleared h)
  deferred-has Take v out = h

-- ---- commits, and PrepareOk, whose area was tested before

pub acked-left : (P : Left → Type 0) (s t : Replica) (k : Op) (installed : Bool) (x : Runs) (out : List ℕ) → ltb (length out) 16 ≡ false
    → P (left (completed (committed_to t k x) 16 0 installed) (settled t k x) (over (prepare_ok_of (committed_to t k x)) out))
    → P (committed_and_acked s t k installed x out)
unfolding committed_and_acked
acked-left P s t k installed x out e p = split P _ _ _ (λ f. absurd (false≢true (sym e ∙ f))) (λ _. p)

-- a call that only sends leaves entries that keep the rules
abbrev pub SentRuled : Memory → Spoke → Type 0
SentRuled m d = RuledBy (only_sent m d)
