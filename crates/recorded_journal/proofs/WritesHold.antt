-- The definition gives the recorded answers: antt computes it. By tools/recorded-journal. Assumes nothing.
use mathlib.Core.Path.{◌≡◌, refl}
use mathlib.Core.List.{map}
use Rattle.recorded_journal.proofs.Open.{open-journals}
use Rattle.recorded_journal.specs.Shape.{writing_of}
use Rattle.recorded_journal.specs.Writes.{writes0, writings0, writes1, writings1, writes2, writings2, writes3, writings3, writes4, writings4, writes5, writings5, writes6, writings6, writes7, writings7, writes8, writings8, writes9, writings9, writes10, writings10, writes11, writings11, writes12, writings12, writes13, writings13}

pub hold0 : map writing_of writes0 ≡ writings0
unfolding open-journals writes0 writings0
hold0 = refl

pub hold1 : map writing_of writes1 ≡ writings1
unfolding open-journals writes1 writings1
hold1 = refl

pub hold2 : map writing_of writes2 ≡ writings2
unfolding open-journals writes2 writings2
hold2 = refl

pub hold3 : map writing_of writes3 ≡ writings3
unfolding open-journals writes3 writings3
hold3 = refl

pub hold4 : map writing_of writes4 ≡ writings4
unfolding open-journals writes4 writings4
hold4 = refl

pub hold5 : map writing_of writes5 ≡ writings5
unfolding open-journals writes5 writings5
hold5 = refl

pub hold6 : map writing_of writes6 ≡ writings6
unfolding open-journals writes6 writings6
hold6 = refl

pub hold7 : map writing_of writes7 ≡ writings7
unfolding open-journals writes7 writings7
hold7 = refl

pub hold8 : map writing_of writes8 ≡ writings8
unfolding open-journals writes8 writings8
hold8 = refl

pub hold9 : map writing_of writes9 ≡ writings9
unfolding open-journals writes9 writings9
hold9 = refl

pub hold10 : map writing_of writes10 ≡ writings10
unfolding open-journals writes10 writings10
hold10 = refl

pub hold11 : map writing_of writes11 ≡ writings11
unfolding open-journals writes11 writings11
hold11 = refl

pub hold12 : map writing_of writes12 ≡ writings12
unfolding open-journals writes12 writings12
hold12 = refl

pub hold13 : map writing_of writes13 ≡ writings13
unfolding open-journals writes13 writings13
hold13 = refl
