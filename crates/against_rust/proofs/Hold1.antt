-- The definitions answer as recorded: antt computes it. By tools/model-replay. Assumes nothing.
use mathlib.Core.Path.{refl}
use Rattle.against_rust.specs.Shape.{RunHolds}
use Rattle.against_rust.proofs.OpenRuns.{open-runs}
use Rattle.against_rust.specs.Runs1.{run32, run33, run34, run35, run36, run37, run38, run39, run40, run41, run42, run43, run44, run45, run46, run47, run48, run49, run50, run51, run52, run53, run54, run55, run56, run57, run58, run59, run60, run61, run62, run63, run64, run65, run66, run67, run68, run69, run70, run71, run72, run73, run74, run75, run76, run77, run78, run79, run80, run81, run82, run83, run84, run85}

pub hold32 : RunHolds run32
unfolding open-runs run32
hold32 = refl

pub hold33 : RunHolds run33
unfolding open-runs run33
hold33 = refl

pub hold34 : RunHolds run34
unfolding open-runs run34
hold34 = refl

pub hold35 : RunHolds run35
unfolding open-runs run35
hold35 = refl

pub hold36 : RunHolds run36
unfolding open-runs run36
hold36 = refl

pub hold37 : RunHolds run37
unfolding open-runs run37
hold37 = refl

pub hold38 : RunHolds run38
unfolding open-runs run38
hold38 = refl

pub hold39 : RunHolds run39
unfolding open-runs run39
hold39 = refl

pub hold40 : RunHolds run40
unfolding open-runs run40
hold40 = refl

pub hold41 : RunHolds run41
unfolding open-runs run41
hold41 = refl

pub hold42 : RunHolds run42
unfolding open-runs run42
hold42 = refl

pub hold43 : RunHolds run43
unfolding open-runs run43
hold43 = refl

pub hold44 : RunHolds run44
unfolding open-runs run44
hold44 = refl

pub hold45 : RunHolds run45
unfolding open-runs run45
hold45 = refl

pub hold46 : RunHolds run46
unfolding open-runs run46
hold46 = refl

pub hold47 : RunHolds run47
unfolding open-runs run47
hold47 = refl

pub hold48 : RunHolds run48
unfolding open-runs run48
hold48 = refl

pub hold49 : RunHolds run49
unfolding open-runs run49
hold49 = refl

pub hold50 : RunHolds run50
unfolding open-runs run50
hold50 = refl

pub hold51 : RunHolds run51
unfolding open-runs run51
hold51 = refl

pub hold52 : RunHolds run52
unfolding open-runs run52
hold52 = refl

pub hold53 : RunHolds run53
unfolding open-runs run53
hold53 = refl

pub hold54 : RunHolds run54
unfolding open-runs run54
hold54 = refl

pub hold55 : RunHolds run55
unfolding open-runs run55
hold55 = refl

pub hold56 : RunHolds run56
unfolding open-runs run56
hold56 = refl

pub hold57 : RunHolds run57
unfolding open-runs run57
hold57 = refl

pub hold58 : RunHolds run58
unfolding open-runs run58
hold58 = refl

pub hold59 : RunHolds run59
unfolding open-runs run59
hold59 = refl

pub hold60 : RunHolds run60
unfolding open-runs run60
hold60 = refl

pub hold61 : RunHolds run61
unfolding open-runs run61
hold61 = refl

pub hold62 : RunHolds run62
unfolding open-runs run62
hold62 = refl

pub hold63 : RunHolds run63
unfolding open-runs run63
hold63 = refl

pub hold64 : RunHolds run64
unfolding open-runs run64
hold64 = refl

pub hold65 : RunHolds run65
unfolding open-runs run65
hold65 = refl

pub hold66 : RunHolds run66
unfolding open-runs run66
hold66 = refl

pub hold67 : RunHolds run67
unfolding open-runs run67
hold67 = refl

pub hold68 : RunHolds run68
unfolding open-runs run68
hold68 = refl

pub hold69 : RunHolds run69
unfolding open-runs run69
hold69 = refl

pub hold70 : RunHolds run70
unfolding open-runs run70
hold70 = refl

pub hold71 : RunHolds run71
unfolding open-runs run71
hold71 = refl

pub hold72 : RunHolds run72
unfolding open-runs run72
hold72 = refl

pub hold73 : RunHolds run73
unfolding open-runs run73
hold73 = refl

pub hold74 : RunHolds run74
unfolding open-runs run74
hold74 = refl

pub hold75 : RunHolds run75
unfolding open-runs run75
hold75 = refl

pub hold76 : RunHolds run76
unfolding open-runs run76
hold76 = refl

pub hold77 : RunHolds run77
unfolding open-runs run77
hold77 = refl

pub hold78 : RunHolds run78
unfolding open-runs run78
hold78 = refl

pub hold79 : RunHolds run79
unfolding open-runs run79
hold79 = refl

pub hold80 : RunHolds run80
unfolding open-runs run80
hold80 = refl

pub hold81 : RunHolds run81
unfolding open-runs run81
hold81 = refl

pub hold82 : RunHolds run82
unfolding open-runs run82
hold82 = refl

pub hold83 : RunHolds run83
unfolding open-runs run83
hold83 = refl

pub hold84 : RunHolds run84
unfolding open-runs run84
hold84 = refl

pub hold85 : RunHolds run85
unfolding open-runs run85
hold85 = refl
