-- The definitions answer as recorded: antt computes it. By tools/model-replay. Assumes nothing.
use mathlib.Core.Path.{refl}
use Rattle.against_rust.specs.Shape.{RunHolds}
use Rattle.against_rust.proofs.OpenRuns.{open-runs}
use Rattle.recorded.specs.Runs5.{run771, run772, run773, run774, run775, run776, run777, run778, run779, run780}

pub hold771 : RunHolds run771
unfolding open-runs run771
hold771 = refl

pub hold772 : RunHolds run772
unfolding open-runs run772
hold772 = refl

pub hold773 : RunHolds run773
unfolding open-runs run773
hold773 = refl

pub hold774 : RunHolds run774
unfolding open-runs run774
hold774 = refl

pub hold775 : RunHolds run775
unfolding open-runs run775
hold775 = refl

pub hold776 : RunHolds run776
unfolding open-runs run776
hold776 = refl

pub hold777 : RunHolds run777
unfolding open-runs run777
hold777 = refl

pub hold778 : RunHolds run778
unfolding open-runs run778
hold778 = refl

pub hold779 : RunHolds run779
unfolding open-runs run779
hold779 = refl

pub hold780 : RunHolds run780
unfolding open-runs run780
hold780 = refl
