-- The definitions answer as recorded: antt computes it. By tools/model-replay. Assumes nothing.
use mathlib.Core.Path.{refl}
use Rattle.against_rust.specs.Shape.{RunHolds}
use Rattle.against_rust.proofs.OpenRuns.{open-runs}
use Rattle.recorded.specs.Runs6.{run781, run782, run783, run784, run785, run786, run787, run788, run789, run790, run791, run792, run793}

pub hold781 : RunHolds run781
unfolding open-runs run781
hold781 = refl

pub hold782 : RunHolds run782
unfolding open-runs run782
hold782 = refl

pub hold783 : RunHolds run783
unfolding open-runs run783
hold783 = refl

pub hold784 : RunHolds run784
unfolding open-runs run784
hold784 = refl

pub hold785 : RunHolds run785
unfolding open-runs run785
hold785 = refl

pub hold786 : RunHolds run786
unfolding open-runs run786
hold786 = refl

pub hold787 : RunHolds run787
unfolding open-runs run787
hold787 = refl

pub hold788 : RunHolds run788
unfolding open-runs run788
hold788 = refl

pub hold789 : RunHolds run789
unfolding open-runs run789
hold789 = refl

pub hold790 : RunHolds run790
unfolding open-runs run790
hold790 = refl

pub hold791 : RunHolds run791
unfolding open-runs run791
hold791 = refl

pub hold792 : RunHolds run792
unfolding open-runs run792
hold792 = refl

pub hold793 : RunHolds run793
unfolding open-runs run793
hold793 = refl
