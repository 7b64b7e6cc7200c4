-- The definitions answer as recorded: antt computes it. By tools/model-replay. Assumes nothing.
use mathlib.Core.Path.{refl}
use Rattle.against_rust.specs.Shape.{RunHolds}
use Rattle.against_rust.proofs.OpenRuns.{open-runs}
use Rattle.against_rust.specs.Runs2.{run86, run87, run88, run89, run90, run91, run92, run93, run94, run95, run96, run97, run98, run99, run100, run101, run102, run103, run104, run105, run106}

pub hold86 : RunHolds run86
unfolding open-runs run86
hold86 = refl

pub hold87 : RunHolds run87
unfolding open-runs run87
hold87 = refl

pub hold88 : RunHolds run88
unfolding open-runs run88
hold88 = refl

pub hold89 : RunHolds run89
unfolding open-runs run89
hold89 = refl

pub hold90 : RunHolds run90
unfolding open-runs run90
hold90 = refl

pub hold91 : RunHolds run91
unfolding open-runs run91
hold91 = refl

pub hold92 : RunHolds run92
unfolding open-runs run92
hold92 = refl

pub hold93 : RunHolds run93
unfolding open-runs run93
hold93 = refl

pub hold94 : RunHolds run94
unfolding open-runs run94
hold94 = refl

pub hold95 : RunHolds run95
unfolding open-runs run95
hold95 = refl

pub hold96 : RunHolds run96
unfolding open-runs run96
hold96 = refl

pub hold97 : RunHolds run97
unfolding open-runs run97
hold97 = refl

pub hold98 : RunHolds run98
unfolding open-runs run98
hold98 = refl

pub hold99 : RunHolds run99
unfolding open-runs run99
hold99 = refl

pub hold100 : RunHolds run100
unfolding open-runs run100
hold100 = refl

pub hold101 : RunHolds run101
unfolding open-runs run101
hold101 = refl

pub hold102 : RunHolds run102
unfolding open-runs run102
hold102 = refl

pub hold103 : RunHolds run103
unfolding open-runs run103
hold103 = refl

pub hold104 : RunHolds run104
unfolding open-runs run104
hold104 = refl

pub hold105 : RunHolds run105
unfolding open-runs run105
hold105 = refl

pub hold106 : RunHolds run106
unfolding open-runs run106
hold106 = refl
