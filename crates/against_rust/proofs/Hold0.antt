-- The definitions answer as recorded: antt computes it. By tools/model-replay. Assumes nothing.
use mathlib.Core.Path.{refl}
use Rattle.against_rust.specs.Shape.{RunHolds}
use Rattle.against_rust.proofs.OpenRuns.{open-runs}
use Rattle.against_rust.specs.Runs0.{run0, run1, run2, run3, run4, run5, run6, run7, run8, run9, run10, run11, run12, run13, run14, run15, run16, run17, run18, run19, run20, run21, run22, run23, run24, run25, run26, run27, run28, run29, run30, run31}

pub hold0 : RunHolds run0
unfolding open-runs run0
hold0 = refl

pub hold1 : RunHolds run1
unfolding open-runs run1
hold1 = refl

pub hold2 : RunHolds run2
unfolding open-runs run2
hold2 = refl

pub hold3 : RunHolds run3
unfolding open-runs run3
hold3 = refl

pub hold4 : RunHolds run4
unfolding open-runs run4
hold4 = refl

pub hold5 : RunHolds run5
unfolding open-runs run5
hold5 = refl

pub hold6 : RunHolds run6
unfolding open-runs run6
hold6 = refl

pub hold7 : RunHolds run7
unfolding open-runs run7
hold7 = refl

pub hold8 : RunHolds run8
unfolding open-runs run8
hold8 = refl

pub hold9 : RunHolds run9
unfolding open-runs run9
hold9 = refl

pub hold10 : RunHolds run10
unfolding open-runs run10
hold10 = refl

pub hold11 : RunHolds run11
unfolding open-runs run11
hold11 = refl

pub hold12 : RunHolds run12
unfolding open-runs run12
hold12 = refl

pub hold13 : RunHolds run13
unfolding open-runs run13
hold13 = refl

pub hold14 : RunHolds run14
unfolding open-runs run14
hold14 = refl

pub hold15 : RunHolds run15
unfolding open-runs run15
hold15 = refl

pub hold16 : RunHolds run16
unfolding open-runs run16
hold16 = refl

pub hold17 : RunHolds run17
unfolding open-runs run17
hold17 = refl

pub hold18 : RunHolds run18
unfolding open-runs run18
hold18 = refl

pub hold19 : RunHolds run19
unfolding open-runs run19
hold19 = refl

pub hold20 : RunHolds run20
unfolding open-runs run20
hold20 = refl

pub hold21 : RunHolds run21
unfolding open-runs run21
hold21 = refl

pub hold22 : RunHolds run22
unfolding open-runs run22
hold22 = refl

pub hold23 : RunHolds run23
unfolding open-runs run23
hold23 = refl

pub hold24 : RunHolds run24
unfolding open-runs run24
hold24 = refl

pub hold25 : RunHolds run25
unfolding open-runs run25
hold25 = refl

pub hold26 : RunHolds run26
unfolding open-runs run26
hold26 = refl

pub hold27 : RunHolds run27
unfolding open-runs run27
hold27 = refl

pub hold28 : RunHolds run28
unfolding open-runs run28
hold28 = refl

pub hold29 : RunHolds run29
unfolding open-runs run29
hold29 = refl

pub hold30 : RunHolds run30
unfolding open-runs run30
hold30 = refl

pub hold31 : RunHolds run31
unfolding open-runs run31
hold31 = refl
