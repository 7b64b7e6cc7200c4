-- Each way out of the outside calls, on plain variables, as the code's tests and calls give them.
--     follow-refused, follow-done                 the client table
--     stays-follow, followed-is                   what the core left, and the table behind it
--     malformed, passes                           a frame
--     idle-unsound, idle-done                     a tick
--     stays-cleared, is-cleared                   creation
-- Assumes nothing.
use Rattle.std.specs.Prelude.{Result, Ok, Err}
use mathlib.Core.Path.{◌≡◌, sym, ap, ◌∙◌, subst}
use mathlib.Core.Bool.{Bool, true, false, not}
use mathlib.Core.List.{List}
use Prim.Native.Nat.{ℕ}
use native.Mathlib.Omega.{arith}
use lib.ListN.{length, replicate}
use borrow.Author.Tests.{eq-eqb, ne_eqb}
use Rattle.numbers.specs.Words.{when◌then◌else◌}
use Rattle.numbers.specs.Numbers.{over, Bytes}
use Rattle.entries.specs.Entries.{entries}
use Rattle.config.specs.Setup.{setup_ok}
use Rattle.config.specs.declared.Setup.{Setup}
use Rattle.fees.specs.Results.{outcomes}
use Rattle.frames.specs.declared.Message.{Message}
use Rattle.frames.specs.declared.Refusal.{Refusal}
use Rattle.client_table.specs.Rows.{followed}
use Rattle.client_table.specs.declared.Latest.{Latest}
use Rattle.client_table.specs.declared.Change.{Change}
use Rattle.client_table.specs.Leaves.{Leaves}
use Rattle.client_table_bytes.specs.Layout.{byte_row, rows_of, rest_of}
use Rattle.client_table_bytes.proofs.LayoutLaws.{left-leaves}
use Rattle.state.specs.Answers.{refusal, code_of}
use Rattle.state.specs.Lengths.{table_length}
use Rattle.state.specs.declared.Returned.{Returned}
use Rattle.state.specs.declared.Replica.{Replica}
use Rattle.steps.specs.Recorded.{Recorded, recorded}
use Rattle.book.specs.Memory.{Memory}
use Rattle.handlers.specs.Handlers.{message_step, idle_step}
use Rattle.handlers.proofs.Stays.{Stays}
use Rattle.outside.specs.Sound.{sound}
use Rattle.outside.specs.Calls.{checked_of, change_by}
use Rattle.outside.specs.Creation.{Started, started}
use Rattle.replica.specs.Calls.{latest_for, table_after, tabled, followed_by, Following, with_table, following, checked_call, message_call, idle_call, cleared}
use Rattle.replica.specs.Lent.{Lent, lent, Called, called, lengths_of}
use Rattle.frames.specs.declared.Refusal.TheVariants.{OutOfRange}

-- ---- the client table

module _ (s : Replica) (a : Returned) (log results table : List ℕ) where
  pub follow-refused : (code_of a ≡ 0 → ⊥) → tabled a table ≡ followed_by s a log results table
  unfolding followed_by when◌then◌else◌
  follow-refused h = rw (ne_eqb (code_of a) 0 h)

  pub follow-done : code_of a ≡ 0 → (k : Change) → k ≡ change_by s a → Following s a (length log) (length results) (length table)
      → {table' : List ℕ} → Bytes table'
      → Leaves rows_of rest_of s.setup.room table table'
      (followed byte_row k (rows_of s.setup.room table) (entries k.to.0 log) (outcomes k.done.0 results))
      → tabled a table' ≡ followed_by s a log results table
  unfolding followed_by table_after when◌then◌else◌
  follow-done h k e f b l = rw (eq-eqb (code_of a) 0 h, (left-leaves b (omega (arith, f.table-long)) l).bytes, e)

-- what the core left is what the table needs
pub stays-follow : (s : Replica) (d : Recorded) (a : Returned) (m : Memory) (table : ℕ) → setup_ok s.setup ≡ true → Stays s d
    → recorded a m ≡ d → table ≡ table_length s.setup
    → Following s a (length m.runs.log) (length m.runs.money.results) table
stays-follow s d a m table ok h e t =
    let k = subst (λ (x : Recorded). Stays s x) (sym e) h in
    let z = k.setup in
    record {
      sized = ok;
      op_le = rw (← z) k.gathering.sound.op_le;
      commit-le = k.gathering.sound.commit-le;
      log-long = rw (← z) k.gathering.sound.log-long;
      results-long = rw (← z) k.gathering.sound.results-long;
      table-long = t;
    }

pub followed-is : (s : Replica) (d : Recorded) (a : Returned) (m : Memory) (table : List ℕ) → recorded a m ≡ d
    → {r : Returned} {table' : List ℕ} → tabled r table' ≡ followed_by s a m.runs.log m.runs.money.results table
    → called r (record { core = m; table = table' }) ≡ following s table d
unfolding following
followed-is s d a m table e q =
    ap (λ z. with_table m z) q
    ∙ ap
    (λ (x : Recorded). with_table x.memory (followed_by s x.answer x.memory.runs.log x.memory.runs.money.results table)) e

-- ---- a frame

module _ (s : Replica) (frame : List ℕ) (x : Lent) (j : Result Message Refusal) (q : j ≡ checked_of s (lengths_of x) frame) where
  pub malformed : (k : Refusal) → j ≡ Err k → {a : Returned} → a ≡ refusal k s → called a x ≡ message_call s frame x
  unfolding message_call checked_call
  malformed k r p = rw (← q, r, p)

  pub passes : (m : Message) → j ≡ Ok m → {d : Called} → d ≡ checked_call (Ok m) s frame x → d ≡ message_call s frame x
  unfolding message_call
  passes m r p = rw (← q, r) p

-- that passed refusals 1 to 6
pub taken : (s : Replica) (m : Message) (frame : List ℕ) (x : Lent) (l : Latest) → l ≡ latest_for m s.setup.room x.table → {d : Called}
    → d ≡ following s x.table (message_step m s l frame x.core) → d ≡ checked_call (Ok m) s frame x
unfolding checked_call
taken s m frame x l e p = p ∙ ap (λ (y : Latest). following s x.table (message_step m s y frame x.core)) e

-- ---- a tick

module _ (s : Replica) (x : Lent) (b : Bool) (e : b ≡ sound s (lengths_of x)) where
  pub idle-unsound : not b ≡ true → {a : Returned} → a ≡ refusal OutOfRange s → called a x ≡ idle_call s x
  unfolding idle_call when◌then◌else◌
  idle-unsound h p = rw (← e, h, p)

  pub idle-done : not b ≡ false → {d : Called} → d ≡ following s x.table (idle_step s x.core) → d ≡ idle_call s x
  unfolding idle_call when◌then◌else◌
  idle-done h p = rw (← e, h) p

-- ---- creation

module _ (u : Setup) (x : Lent) {a : Returned} {totals acks out : List ℕ} {d : Started} (e : started a totals acks out ≡ d) where
  abbrev left : (table : List ℕ) → Called
  left table =
      called a (lent x.core.runs.log x.core.runs.money.results totals acks x.core.stored table out x.core.reps)

  pub stays-cleared : (code_of a ≡ 0 → ⊥) → left x.table ≡ cleared u x d
  unfolding cleared when◌then◌else◌
  stays-cleared h = rw (← e, ne_eqb (code_of a) 0 h)

  pub is-cleared : code_of a ≡ 0 → {table : List ℕ} → table ≡ over (replicate (table_length u) 0) x.table → left table ≡ cleared u x d
  unfolding cleared when◌then◌else◌
  is-cleared h t = rw (← e, eq-eqb (code_of a) 0 h, t)
