-- A Prepare and a Commit to all others: what writers::broadcast asks for them, and how long they are. Assumes nothing.
use mathlib.Core.Path.{◌≡◌, refl}
use mathlib.Core.Bool.{true}
use mathlib.Core.List.{[]}
use Prim.Native.Nat.{ℕ, ◌-◌, ◌*◌, ◌≤◌, ◌<◌}
use lib.ListN.{length}
use Rattle.numbers.specs.declared.View.{View}
use Rattle.numbers.specs.declared.Op.{Op}
use Rattle.entries.specs.declared.Entry.{Entry}
use Rattle.config.specs.Setup.{setup_ok}
use Rattle.config.specs.declared.Setup.{Setup}
use Rattle.frames.specs.declared.Message.TheVariants.{Prepare, Commit}
use Rattle.writers.specs.Writers.{size_of, length_of, to_others}
use Rattle.steps.proofs.SendLaws.{bare-asks, bare-long}

module _ (u : Setup) (ok : setup_ok u ≡ true) where
  module _ (v : View) (o c : Op) (e : Entry) where
    pub prepare-asks : (n area : ℕ) → 51 * (u.n - 1) ≤ area
        → (u.id < u.n)
        × (((size_of (Prepare v o c e)).entries ≤ 4096)
        × ((32 * (size_of (Prepare v o c e)).entries ≤ n) × ((u.n - 1) * length_of (Prepare v o c e) ≤ area)))
    unfolding size_of length_of
    prepare-asks n area l = bare-asks u ok (Prepare v o c e) n area refl l

    pub prepare-long : length (to_others u.n u.id (Prepare v o c e) []) ≡ 51 * (u.n - 1)
    unfolding size_of length_of
    prepare-long = bare-long u ok (Prepare v o c e) refl

  module _ (v : View) (c : Op) where
    pub beat-asks : (n area : ℕ) → 15 * (u.n - 1) ≤ area
        → (u.id < u.n)
        × (((size_of (Commit v c)).entries ≤ 4096) × ((32 * (size_of (Commit v c)).entries ≤ n) × ((u.n - 1) * length_of (Commit v c) ≤ area)))
    unfolding size_of length_of
    beat-asks n area l = bare-asks u ok (Commit v c) n area refl l

    pub beat-long : length (to_others u.n u.id (Commit v c) []) ≡ 15 * (u.n - 1)
    unfolding size_of length_of
    beat-long = bare-long u ok (Commit v c) refl
