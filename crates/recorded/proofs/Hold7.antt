-- The definitions answer as recorded: antt computes it. By tools/model-replay. Assumes nothing.
use mathlib.Core.Path.{refl}
use Rattle.against_rust.specs.Shape.{RunHolds}
use Rattle.against_rust.proofs.OpenRuns.{open-runs}
use Rattle.recorded.specs.Runs7.{run794, run795, run796, run797, run798, run799, run800, run801, run802}

pub hold794 : RunHolds run794
unfolding open-runs run794
hold794 = refl

pub hold795 : RunHolds run795
unfolding open-runs run795
hold795 = refl

pub hold796 : RunHolds run796
unfolding open-runs run796
hold796 = refl

pub hold797 : RunHolds run797
unfolding open-runs run797
hold797 = refl

pub hold798 : RunHolds run798
unfolding open-runs run798
hold798 = refl

pub hold799 : RunHolds run799
unfolding open-runs run799
hold799 = refl

pub hold800 : RunHolds run800
unfolding open-runs run800
hold800 = refl

pub hold801 : RunHolds run801
unfolding open-runs run801
hold801 = refl

pub hold802 : RunHolds run802
unfolding open-runs run802
hold802 = refl
