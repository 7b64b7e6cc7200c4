-- The definition gives the recorded answers: antt computes it. By tools/recorded-journal. Assumes nothing.
use mathlib.Core.Path.{◌≡◌, refl}
use mathlib.Core.List.{map}
use Rattle.recorded_journal.proofs.Open.{open-journals}
use Rattle.recorded_journal.specs.Shape.{reading_of}
use Rattle.recorded_journal.specs.Reads.{reads0, readings0, reads1, readings1, reads2, readings2, reads3, readings3, reads4, readings4, reads5, readings5, reads6, readings6, reads7, readings7, reads8, readings8, reads9, readings9, reads10, readings10, reads11, readings11, reads12, readings12, reads13, readings13, reads14, readings14, reads15, readings15, reads16, readings16, reads17, readings17, reads18, readings18, reads19, readings19, reads20, readings20, reads21, readings21, reads22, readings22, reads23, readings23, reads24, readings24, reads25, readings25, reads26, readings26, reads27, readings27, reads28, readings28, reads29, readings29}

pub hold0 : map reading_of reads0 ≡ readings0
unfolding open-journals reads0 readings0
hold0 = refl

pub hold1 : map reading_of reads1 ≡ readings1
unfolding open-journals reads1 readings1
hold1 = refl

pub hold2 : map reading_of reads2 ≡ readings2
unfolding open-journals reads2 readings2
hold2 = refl

pub hold3 : map reading_of reads3 ≡ readings3
unfolding open-journals reads3 readings3
hold3 = refl

pub hold4 : map reading_of reads4 ≡ readings4
unfolding open-journals reads4 readings4
hold4 = refl

pub hold5 : map reading_of reads5 ≡ readings5
unfolding open-journals reads5 readings5
hold5 = refl

pub hold6 : map reading_of reads6 ≡ readings6
unfolding open-journals reads6 readings6
hold6 = refl

pub hold7 : map reading_of reads7 ≡ readings7
unfolding open-journals reads7 readings7
hold7 = refl

pub hold8 : map reading_of reads8 ≡ readings8
unfolding open-journals reads8 readings8
hold8 = refl

pub hold9 : map reading_of reads9 ≡ readings9
unfolding open-journals reads9 readings9
hold9 = refl

pub hold10 : map reading_of reads10 ≡ readings10
unfolding open-journals reads10 readings10
hold10 = refl

pub hold11 : map reading_of reads11 ≡ readings11
unfolding open-journals reads11 readings11
hold11 = refl

pub hold12 : map reading_of reads12 ≡ readings12
unfolding open-journals reads12 readings12
hold12 = refl

pub hold13 : map reading_of reads13 ≡ readings13
unfolding open-journals reads13 readings13
hold13 = refl

pub hold14 : map reading_of reads14 ≡ readings14
unfolding open-journals reads14 readings14
hold14 = refl

pub hold15 : map reading_of reads15 ≡ readings15
unfolding open-journals reads15 readings15
hold15 = refl

pub hold16 : map reading_of reads16 ≡ readings16
unfolding open-journals reads16 readings16
hold16 = refl

pub hold17 : map reading_of reads17 ≡ readings17
unfolding open-journals reads17 readings17
hold17 = refl

pub hold18 : map reading_of reads18 ≡ readings18
unfolding open-journals reads18 readings18
hold18 = refl

pub hold19 : map reading_of reads19 ≡ readings19
unfolding open-journals reads19 readings19
hold19 = refl

pub hold20 : map reading_of reads20 ≡ readings20
unfolding open-journals reads20 readings20
hold20 = refl

pub hold21 : map reading_of reads21 ≡ readings21
unfolding open-journals reads21 readings21
hold21 = refl

pub hold22 : map reading_of reads22 ≡ readings22
unfolding open-journals reads22 readings22
hold22 = refl

pub hold23 : map reading_of reads23 ≡ readings23
unfolding open-journals reads23 readings23
hold23 = refl

pub hold24 : map reading_of reads24 ≡ readings24
unfolding open-journals reads24 readings24
hold24 = refl

pub hold25 : map reading_of reads25 ≡ readings25
unfolding open-journals reads25 readings25
hold25 = refl

pub hold26 : map reading_of reads26 ≡ readings26
unfolding open-journals reads26 readings26
hold26 = refl

pub hold27 : map reading_of reads27 ≡ readings27
unfolding open-journals reads27 readings27
hold27 = refl

pub hold28 : map reading_of reads28 ≡ readings28
unfolding open-journals reads28 readings28
hold28 = refl

pub hold29 : map reading_of reads29 ≡ readings29
unfolding open-journals reads29 readings29
hold29 = refl
