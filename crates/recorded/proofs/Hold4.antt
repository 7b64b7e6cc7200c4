-- The definitions answer as recorded: antt computes it. By tools/model-replay. Assumes nothing.
use mathlib.Core.Path.{refl}
use Rattle.against_rust.specs.Shape.{RunHolds}
use Rattle.against_rust.proofs.OpenRuns.{open-runs}
use Rattle.recorded.specs.Runs4.{run761, run762, run763, run764, run765, run766, run767, run768, run769, run770}

pub hold761 : RunHolds run761
unfolding open-runs run761
hold761 = refl

pub hold762 : RunHolds run762
unfolding open-runs run762
hold762 = refl

pub hold763 : RunHolds run763
unfolding open-runs run763
hold763 = refl

pub hold764 : RunHolds run764
unfolding open-runs run764
hold764 = refl

pub hold765 : RunHolds run765
unfolding open-runs run765
hold765 = refl

pub hold766 : RunHolds run766
unfolding open-runs run766
hold766 = refl

pub hold767 : RunHolds run767
unfolding open-runs run767
hold767 = refl

pub hold768 : RunHolds run768
unfolding open-runs run768
hold768 = refl

pub hold769 : RunHolds run769
unfolding open-runs run769
hold769 = refl

pub hold770 : RunHolds run770
unfolding open-runs run770
hold770 = refl
