-- The rows with a new report, that of replica r: refusal 7, of the log that is chosen.
--     run-bytes, keeps-chosen    the log that the judge lends is the front of its run
-- Assumes nothing.
use Prim.Native.Nat.{ℕ, ◌*◌, ◌≤◌}
use native.Mathlib.Omega.{arith}
use mathlib.Core.Path.{◌≡◌, sym, ap, ◌∙◌}
use mathlib.Core.Bool.{true}
use mathlib.Core.List.{List}
use mathlib.Core.Logic.{⊎_elim}
use lib.ListN.{length, take}
use lib.Seq.{take-take}
use Rattle.numbers.specs.Numbers.{Bytes}
use Rattle.numbers.proofs.NumberLaws.{le-or-lt, drop-bytes}
use Rattle.numbers.proofs.WordLaws.{split}
use Rattle.entries.specs.Entries.{entries, entries_ok}
use Rattle.entries.specs.Places.{entry_place}
use Rattle.config.specs.declared.Setup.{Setup}
use Rattle.book.specs.Log.{is_same, keeps_first}
use Rattle.book.proofs.LogLaws.{keeps-long, keeps-short}
use Rattle.state.specs.Lengths.{stored_place}
use Rattle.reports.specs.Judge.{chosen_log}
use Rattle.reports.specs.declared.Best.{Best}
use Rattle.reports.proofs.WholeLaws.{run_of, Whole, lent_is}
use Rattle.model.specs.Book.{agree}
use Rattle.model.proofs.LogLift.{keeps-lift}

-- what is past the k entries of a log isn't compared
keeps-front : (n k : ℕ) (log part : List ℕ) → keeps_first n log k (take (32 * k) part) ≡ keeps_first n log k part
keeps-front n k log part =
    ⊎_elim
    (λ h.
    keeps-long n log k (take (32 * k) part) h
    ∙ ap (is_same (take (32 * n) log)) (take-take (32 * n) (32 * k) part (omega (arith, h)))
    ∙ sym (keeps-long n log k part h))
    (λ h. keeps-short n log k (take (32 * k) part) h ∙ sym (keeps-short n log k part h)) (le-or-lt n k)

module _ (u : Setup) (stored : List ℕ) (r : ℕ) (fresh : List ℕ) where
  abbrev run : ℕ → List ℕ
  run i = run_of u stored r fresh i

  pub run-bytes : (i : ℕ) → Bytes stored → Bytes fresh → Bytes (run_of u stored r fresh i)
  run-bytes i old new = split Bytes _ _ _ (λ _. new) (λ _. drop-bytes (stored_place u.room i) stored old)

  pub keeps-chosen : (b : Best) → Whole u stored r fresh b.id b.report → Bytes stored → Bytes fresh
      → (n op : ℕ) (log : List ℕ) → entries_ok op log ≡ true → Bytes log → n ≤ op → entry_place op ≤ length log
      → agree n (entries b.report.op.0 (run_of u stored r fresh b.id)) (entries op log)
      ≡ keeps_first n log b.report.op.0 (chosen_log b r u.room stored fresh)
  keeps-chosen b w old new n op log ok bytes h l =
      let k = b.report.op.0 in
      keeps-lift n op k log (run b.id) ok w.rules bytes (run-bytes b.id old new) h l w.long
      ∙ sym (keeps-front n k log (run b.id))
      ∙ ap (keeps_first n log k) (sym (lent_is u stored r fresh b))
