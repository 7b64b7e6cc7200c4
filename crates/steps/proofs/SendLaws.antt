-- Messages without a log, to all others: what writers::broadcast asks for them, and how long they are. Assumes nothing.
use mathlib.Core.Path.{◌≡◌, ◌∙◌}
use mathlib.Core.Bool.{true}
use mathlib.Core.List.{[]}
use Prim.Native.Nat.{ℕ, ◌-◌, ◌*◌, ◌≤◌, ◌<◌}
use native.Mathlib.Nat.{mul_comm}
use native.Mathlib.Omega.{arith}
use lib.ListN.{length}
use Rattle.config.specs.Setup.{setup_ok}
use Rattle.config.specs.declared.Setup.{Setup}
use Rattle.config.proofs.SetupLaws.{sized}
use Rattle.frames.specs.declared.Message.{Message}
use Rattle.writers.specs.Writers.{size_of, length_of, to_others}
use Rattle.writers.proofs.WriterLaws.{others-length}

module _ (u : Setup) (ok : setup_ok u ≡ true) where
  pub bare-asks : (m : Message) (n area : ℕ) → (size_of m).entries ≡ 0 → length_of m * (u.n - 1) ≤ area
      → (u.id < u.n) × (((size_of m).entries ≤ 4096) × ((32 * (size_of m).entries ≤ n) × ((u.n - 1) * length_of m ≤ area)))
  bare-asks m n area b l =
      let z = sized u ok in
      (z.own, (omega (arith, b), (omega (arith, b), omega (arith, l, mul_comm (u.n - 1) (length_of m)))))

  pub bare-long : (m : Message) → (size_of m).entries ≡ 0 → length (to_others u.n u.id m []) ≡ length_of m * (u.n - 1)
  bare-long m b =
      let z = sized u ok in
      others-length u.id m [] (omega (arith, b)) u.n z.own ∙ mul_comm (u.n - 1) (length_of m)
