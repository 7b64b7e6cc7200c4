-- The definition gives the recorded answers: antt computes it. By tools/recorded-csv. Assumes nothing.
use mathlib.Core.Path.{◌≡◌, refl}
use mathlib.Core.List.{map}
use Rattle.recorded_csv.proofs.Open.{open-imports}
use Rattle.recorded_csv.specs.Shape.{import_of}
use Rattle.recorded_csv.specs.Imports.{imports0, importings0, imports1, importings1, imports2, importings2, imports3, importings3, imports4, importings4, imports5, importings5, imports6, importings6, imports7, importings7, imports8, importings8, imports9, importings9, imports10, importings10, imports11, importings11, imports12, importings12, imports13, importings13, imports14, importings14, imports15, importings15, imports16, importings16, imports17, importings17, imports18, importings18, imports19, importings19, imports20, importings20, imports21, importings21, imports22, importings22, imports23, importings23, imports24, importings24, imports25, importings25, imports26, importings26, imports27, importings27, imports28, importings28, imports29, importings29, imports30, importings30, imports31, importings31, imports32, importings32, imports33, importings33, imports34, importings34, imports35, importings35, imports36, importings36}

pub hold0 : map import_of imports0 ≡ importings0
unfolding open-imports imports0 importings0
hold0 = refl

pub hold1 : map import_of imports1 ≡ importings1
unfolding open-imports imports1 importings1
hold1 = refl

pub hold2 : map import_of imports2 ≡ importings2
unfolding open-imports imports2 importings2
hold2 = refl

pub hold3 : map import_of imports3 ≡ importings3
unfolding open-imports imports3 importings3
hold3 = refl

pub hold4 : map import_of imports4 ≡ importings4
unfolding open-imports imports4 importings4
hold4 = refl

pub hold5 : map import_of imports5 ≡ importings5
unfolding open-imports imports5 importings5
hold5 = refl

pub hold6 : map import_of imports6 ≡ importings6
unfolding open-imports imports6 importings6
hold6 = refl

pub hold7 : map import_of imports7 ≡ importings7
unfolding open-imports imports7 importings7
hold7 = refl

pub hold8 : map import_of imports8 ≡ importings8
unfolding open-imports imports8 importings8
hold8 = refl

pub hold9 : map import_of imports9 ≡ importings9
unfolding open-imports imports9 importings9
hold9 = refl

pub hold10 : map import_of imports10 ≡ importings10
unfolding open-imports imports10 importings10
hold10 = refl

pub hold11 : map import_of imports11 ≡ importings11
unfolding open-imports imports11 importings11
hold11 = refl

pub hold12 : map import_of imports12 ≡ importings12
unfolding open-imports imports12 importings12
hold12 = refl

pub hold13 : map import_of imports13 ≡ importings13
unfolding open-imports imports13 importings13
hold13 = refl

pub hold14 : map import_of imports14 ≡ importings14
unfolding open-imports imports14 importings14
hold14 = refl

pub hold15 : map import_of imports15 ≡ importings15
unfolding open-imports imports15 importings15
hold15 = refl

pub hold16 : map import_of imports16 ≡ importings16
unfolding open-imports imports16 importings16
hold16 = refl

pub hold17 : map import_of imports17 ≡ importings17
unfolding open-imports imports17 importings17
hold17 = refl

pub hold18 : map import_of imports18 ≡ importings18
unfolding open-imports imports18 importings18
hold18 = refl

pub hold19 : map import_of imports19 ≡ importings19
unfolding open-imports imports19 importings19
hold19 = refl

pub hold20 : map import_of imports20 ≡ importings20
unfolding open-imports imports20 importings20
hold20 = refl

pub hold21 : map import_of imports21 ≡ importings21
unfolding open-imports imports21 importings21
hold21 = refl

pub hold22 : map import_of imports22 ≡ importings22
unfolding open-imports imports22 importings22
hold22 = refl

pub hold23 : map import_of imports23 ≡ importings23
unfolding open-imports imports23 importings23
hold23 = refl

pub hold24 : map import_of imports24 ≡ importings24
unfolding open-imports imports24 importings24
hold24 = refl

pub hold25 : map import_of imports25 ≡ importings25
unfolding open-imports imports25 importings25
hold25 = refl

pub hold26 : map import_of imports26 ≡ importings26
unfolding open-imports imports26 importings26
hold26 = refl

pub hold27 : map import_of imports27 ≡ importings27
unfolding open-imports imports27 importings27
hold27 = refl

pub hold28 : map import_of imports28 ≡ importings28
unfolding open-imports imports28 importings28
hold28 = refl

pub hold29 : map import_of imports29 ≡ importings29
unfolding open-imports imports29 importings29
hold29 = refl

pub hold30 : map import_of imports30 ≡ importings30
unfolding open-imports imports30 importings30
hold30 = refl

pub hold31 : map import_of imports31 ≡ importings31
unfolding open-imports imports31 importings31
hold31 = refl

pub hold32 : map import_of imports32 ≡ importings32
unfolding open-imports imports32 importings32
hold32 = refl

pub hold33 : map import_of imports33 ≡ importings33
unfolding open-imports imports33 importings33
hold33 = refl

pub hold34 : map import_of imports34 ≡ importings34
unfolding open-imports imports34 importings34
hold34 = refl

pub hold35 : map import_of imports35 ≡ importings35
unfolding open-imports imports35 importings35
hold35 = refl

pub hold36 : map import_of imports36 ≡ importings36
unfolding open-imports imports36 importings36
hold36 = refl
