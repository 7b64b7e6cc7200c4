-- The definition gives the recorded answers: antt computes it. By tools/recorded-csv. Assumes nothing.
use mathlib.Core.Path.{◌≡◌, refl, ◌∙◌}
use mathlib.Core.List.{map}
use Rattle.recorded_csv.proofs.Short.{short-exports}
use Rattle.recorded_csv.proofs.Open.{open-exports}
use Rattle.recorded_csv.specs.Shape.{export_of}
use Rattle.recorded_csv.specs.Exports.{exports0, exportings0, exports1, exportings1, exports2, exportings2, exports3, exportings3, exports4, exportings4, exports5, exportings5, exports6, exportings6, exports7, exportings7, exports8, exportings8, exports9, exportings9, exports10, exportings10}

pub hold0 : map export_of exports0 ≡ exportings0
unfolding open-exports exports0 exportings0
hold0 = short-exports exports0 ∙ refl

pub hold1 : map export_of exports1 ≡ exportings1
unfolding open-exports exports1 exportings1
hold1 = short-exports exports1 ∙ refl

pub hold2 : map export_of exports2 ≡ exportings2
unfolding open-exports exports2 exportings2
hold2 = short-exports exports2 ∙ refl

pub hold3 : map export_of exports3 ≡ exportings3
unfolding open-exports exports3 exportings3
hold3 = short-exports exports3 ∙ refl

pub hold4 : map export_of exports4 ≡ exportings4
unfolding open-exports exports4 exportings4
hold4 = short-exports exports4 ∙ refl

pub hold5 : map export_of exports5 ≡ exportings5
unfolding open-exports exports5 exportings5
hold5 = short-exports exports5 ∙ refl

pub hold6 : map export_of exports6 ≡ exportings6
unfolding open-exports exports6 exportings6
hold6 = short-exports exports6 ∙ refl

pub hold7 : map export_of exports7 ≡ exportings7
unfolding open-exports exports7 exportings7
hold7 = short-exports exports7 ∙ refl

pub hold8 : map export_of exports8 ≡ exportings8
unfolding open-exports exports8 exportings8
hold8 = short-exports exports8 ∙ refl

pub hold9 : map export_of exports9 ≡ exportings9
unfolding open-exports exports9 exportings9
hold9 = short-exports exports9 ∙ refl

pub hold10 : map export_of exports10 ≡ exportings10
unfolding open-exports exports10 exportings10
hold10 = short-exports exports10 ∙ refl
