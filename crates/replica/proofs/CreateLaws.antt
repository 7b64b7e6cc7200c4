-- Creation: what is read from the memory that it leaves is the model's new replica, and it is memory as calls produce it. Assumes nothing.
use mathlib.Core.Path.{◌≡◌, refl, sym, ap, ◌∙◌, subst}
use mathlib.Core.Bool.{true, false, false≢true}
use mathlib.Core.List.{List, [], ◌∷◌, ◌++◌}
use mathlib.Core.Option.{Option, none}
use Prim.Native.Nat.{ℕ, zero, suc, ◌+◌, ◌*◌, ◌<◌}
use native.Mathlib.Omega.{arith}
use lib.ListN.{length, get_or, replicate, length-replicate, get_or-replicate, replicate-append-replicate}
use borrow.Author.Tests.{eq-eqb, ne_eqb}
use Rattle.numbers.specs.Words.{when◌then◌else◌}
use Rattle.numbers.specs.Numbers.{num, over}
use Rattle.numbers.specs.Cells.{cells}
use Rattle.numbers.specs.declared.View.{View}
use Rattle.numbers.proofs.WordLaws.{split}
use Rattle.numbers.proofs.RunLaws.{length_over, over-all}
use Rattle.entries.specs.Entries.{entries_ok}
use Rattle.config.specs.Setup.{setup_ok}
use Rattle.config.specs.declared.Setup.{Setup}
use Rattle.config.proofs.SetupLaws.{sized}
use Rattle.frames.specs.declared.Status.{Status}
use Rattle.client_table_bytes.specs.Layout.{no_row, byte_row, rows_of}
use Rattle.client_table_bytes.proofs.LayoutLaws.{left-cleared, byte-lawful}
use Rattle.state.specs.State.{new_in}
use Rattle.state.specs.Answers.{refusal, code_of}
use Rattle.state.specs.Statuses.{is_recovering, no_report}
use Rattle.state.specs.Lengths.{acks_length, totals_length, table_length}
use Rattle.state.specs.declared.Returned.{Returned}
use Rattle.state.specs.declared.Replica.{Replica}
use Rattle.state.proofs.SoundLaws.{none-gathered}
use Rattle.model.specs.State.{Reported, Response}
use Rattle.model.specs.Book.{empty_book}
use Rattle.model.specs.ViewChange.{no_reports, no_acks}
use Rattle.model.specs.Recovery.{no_responses}
use Rattle.layout.specs.Layout.{total_of, table_in, Ordered, store_of, book_of, model_of}
use Rattle.model.specs.Steps.{new_at}
use Rattle.layout.proofs.RowLift.{Means}
use Rattle.layout.proofs.TableLift.{blank-means}
use Rattle.steps.proofs.StepLift.{reports-cleared, responses-cleared}
use Rattle.safety.specs.Demand.{Created, run}
use Rattle.outside.specs.Sound.{sound}
use Rattle.outside.specs.Creation.{started, zeroed}
use Rattle.outside.proofs.SoundLaws.{Long, is-sound}
use Rattle.replica.specs.Calls.{cleared}
use Rattle.replica.specs.Lent.{Lent, lent, called, lengths_of}
use Rattle.replica.specs.Meaning.{meaning_of, Kept}
use Rattle.frames.specs.declared.Refusal.{Refusal}
use Rattle.frames.proofs.RefusalLaws.{number-some}
use Rattle.frames.specs.Refusals.{number_of}

-- ---- what it leaves

-- one that isn't refused: totals, acks and table are zeroed, the other runs stay as they were
unfoldable pub emptied : Setup → Lent → (out : List ℕ) → Lent
emptied u x out =
    lent x.core.runs.log x.core.runs.money.results
    (over (replicate (totals_length u) 0) x.core.runs.money.totals)
    (over (replicate (acks_length u) 0) x.core.acks)
    x.core.stored
    (over (replicate (table_length u) 0) x.table)
    out x.core.reps

module _ (u : Setup) (x : Lent) where
  pub cleared-refused : (k : Refusal) (z : Replica)
      → cleared u x (started (refusal k z) x.core.runs.money.totals x.core.acks x.core.out) ≡ called (refusal k z) x
  unfolding cleared when◌then◌else◌
  cleared-refused k z = rw (ne_eqb (number_of k) 0 (number-some k))

  pub cleared-done : (a : Returned) (out : List ℕ) → code_of a ≡ 0
      → cleared u x (zeroed u a x.core.runs.money.totals x.core.acks out) ≡ called a (emptied u x out)
  unfolding cleared emptied when◌then◌else◌
  cleared-done a out h = rw (eq-eqb (code_of a) 0 h)

zero-totals : (k : ℕ) (rest : List ℕ) → cells 8 total_of k (replicate (8 * k) 0 ++ rest) ≡ replicate k 0
unfolding cells num
zero-totals zero rest = refl
zero-totals (suc k) rest =
    let e : 8 * suc k ≡ 8 + 8 * k = omega arith in
    rw (e, ← replicate-append-replicate {A = ℕ} 8 (8 * k) 0) (ap (λ (l : List ℕ). 0 ∷ l) (zero-totals k rest))

module _ (u : Setup) (x : Lent) (out : List ℕ) (ok : setup_ok u ≡ true) (long : Long u (lengths_of x)) (status : Status) (v : View) (nonce : ℕ) where
  abbrev t : Replica
  t = new_in u status v nonce

  abbrev y : Lent
  y = emptied u x out

  -- ---- what is read

  rows_are : rows_of u.room (over (replicate (table_length u) 0) x.table) ≡ replicate u.room no_row
  rows_are = (left-cleared u.room {s = x.table} refl).rows

  blank : Means byte_row u.room [] (replicate u.room no_row)
  blank = blank-means byte_row byte-lawful u.room

  totals-are : cells 8 total_of u.members (over (replicate (totals_length u) 0) x.core.runs.money.totals) ≡ replicate u.members 0
  unfolding over
  totals-are = zero-totals u.members _

  acks-are : over (replicate (acks_length u) 0) x.core.acks ≡ no_acks u
  unfolding no_acks
  acks-are = over-all _ x.core.acks (length-replicate u.room 0 ∙ sym long.acks)

  store_is : store_of t x.core.stored ≡ record { reports = no_reports u; responses = no_responses u; nonce = nonce }
  unfolding store_of no_reports no_responses
  store_is =
      let few = (sized u ok).seven in
      let p = split (λ (l : List (Option Reported)). l ≡ replicate u.n none) (is_recovering status) _ _ (λ _. refl)
      (λ _. reports-cleared u x.core.stored few) in
      let q = split (λ (l : List (Option Response)). l ≡ replicate u.n none) (is_recovering status) _ _
      (λ _. responses-cleared u x.core.stored few) (λ _. refl) in
      λ i. record { reports = p i; responses = q i; nonce = nonce }

  pub new-reads : meaning_of (new_in u status v nonce) (emptied u x out) [] ≡ new_at u status v.0 nonce
  unfolding emptied model_of book_of new_at empty_book cells
  new-reads =
      let rows : table_in byte_row (rows_of u.room (over (replicate (table_length u) 0) x.table)) ≡ [] =
      ap (table_in byte_row) rows_are ∙ blank.table in
      λ i. record {
        place = record { status = status; view = v.0; last_normal = v.0; catching_up = false };
        book =
            record { log = []; commit = 0; results = []; table = rows i; totals = totals-are i; takings = 0; applied = [] };
        votes = record { acks = acks-are i; starts = 0; sent = false };
        store = store_is i;
        clock = t.clock;
      }

  -- ---- it is memory as calls produce it

  written : (k : ℕ) (s : List ℕ) → length s ≡ k → length (over (replicate k 0) s) ≡ k
  written k s e = length_over (replicate k 0) s (omega (arith, length-replicate {A = ℕ} k 0)) ∙ e

  new-sound : sound t (lengths_of y) ≡ true
  unfolding emptied
  new-sound =
      is-sound t y.core (length y.table)
      record {
        gathering =
            record {
              sound =
                  record {
                    sized = ok;
                    commit-le = omega arith;
                    op_le = omega arith;
                    log-long = long.log;
                    results-long = long.results;
                    totals-long = written (totals_length u) _ long.totals;
                  };
              reports = none-gathered u;
              acks-long = written (acks_length u) _ long.acks;
              stored-long = long.stored;
            };
        takings-le = omega arith;
        table-long = written (table_length u) _ long.table;
      }

  none-there : (i : ℕ) → i < u.n → (get_or (replicate 7 no_report) i no_report).there ≡ false
  none-there i h = rw (get_or-replicate 7 i no_report no_report (omega (arith, (sized u ok).seven)))

  pub new-kept : Created u (new_at u status v.0 nonce) → Kept (new_in u status v nonce) (emptied u x out) []
  unfolding emptied entries_ok run
  new-kept c =
      record {
        sound = new-sound;
        log-ok = refl;
        rows-count = refl;
        stored_ok = λ i h p. absurd (false≢true (sym (none-there i h) ∙ p));
        ordered = subst (Ordered byte_row) (sym rows_are) blank.ordered;
        reached = record { first = new_at u status v.0 nonce; created = c; calls = []; is = new-reads };
      }
