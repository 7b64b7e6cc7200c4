-- The definition gives the recorded offsets: antt computes it. By tools/recorded-offsets. Assumes nothing.
use mathlib.Core.Path.{◌≡◌, refl}
use mathlib.Core.List.{map}
use Rattle.frames.specs.FrameRules.{offset_of}
use Rattle.recorded_offsets.proofs.Open.{open-offsets}
use Rattle.recorded_offsets.specs.Recorded.{frames0, offsets0, frames1, offsets1, frames2, offsets2, frames3, offsets3, frames4, offsets4, frames5, offsets5, frames6, offsets6, frames7, offsets7, frames8, offsets8, frames9, offsets9, frames10, offsets10, frames11, offsets11, frames12, offsets12, frames13, offsets13, frames14, offsets14, frames15, offsets15, frames16, offsets16, frames17, offsets17, frames18, offsets18, frames19, offsets19, frames20, offsets20, frames21, offsets21, frames22, offsets22, frames23, offsets23, frames24, offsets24, frames25, offsets25, frames26, offsets26, frames27, offsets27, frames28, offsets28, frames29, offsets29}

pub hold0 : map offset_of frames0 ≡ offsets0
unfolding open-offsets frames0 offsets0
hold0 = refl

pub hold1 : map offset_of frames1 ≡ offsets1
unfolding open-offsets frames1 offsets1
hold1 = refl

pub hold2 : map offset_of frames2 ≡ offsets2
unfolding open-offsets frames2 offsets2
hold2 = refl

pub hold3 : map offset_of frames3 ≡ offsets3
unfolding open-offsets frames3 offsets3
hold3 = refl

pub hold4 : map offset_of frames4 ≡ offsets4
unfolding open-offsets frames4 offsets4
hold4 = refl

pub hold5 : map offset_of frames5 ≡ offsets5
unfolding open-offsets frames5 offsets5
hold5 = refl

pub hold6 : map offset_of frames6 ≡ offsets6
unfolding open-offsets frames6 offsets6
hold6 = refl

pub hold7 : map offset_of frames7 ≡ offsets7
unfolding open-offsets frames7 offsets7
hold7 = refl

pub hold8 : map offset_of frames8 ≡ offsets8
unfolding open-offsets frames8 offsets8
hold8 = refl

pub hold9 : map offset_of frames9 ≡ offsets9
unfolding open-offsets frames9 offsets9
hold9 = refl

pub hold10 : map offset_of frames10 ≡ offsets10
unfolding open-offsets frames10 offsets10
hold10 = refl

pub hold11 : map offset_of frames11 ≡ offsets11
unfolding open-offsets frames11 offsets11
hold11 = refl

pub hold12 : map offset_of frames12 ≡ offsets12
unfolding open-offsets frames12 offsets12
hold12 = refl

pub hold13 : map offset_of frames13 ≡ offsets13
unfolding open-offsets frames13 offsets13
hold13 = refl

pub hold14 : map offset_of frames14 ≡ offsets14
unfolding open-offsets frames14 offsets14
hold14 = refl

pub hold15 : map offset_of frames15 ≡ offsets15
unfolding open-offsets frames15 offsets15
hold15 = refl

pub hold16 : map offset_of frames16 ≡ offsets16
unfolding open-offsets frames16 offsets16
hold16 = refl

pub hold17 : map offset_of frames17 ≡ offsets17
unfolding open-offsets frames17 offsets17
hold17 = refl

pub hold18 : map offset_of frames18 ≡ offsets18
unfolding open-offsets frames18 offsets18
hold18 = refl

pub hold19 : map offset_of frames19 ≡ offsets19
unfolding open-offsets frames19 offsets19
hold19 = refl

pub hold20 : map offset_of frames20 ≡ offsets20
unfolding open-offsets frames20 offsets20
hold20 = refl

pub hold21 : map offset_of frames21 ≡ offsets21
unfolding open-offsets frames21 offsets21
hold21 = refl

pub hold22 : map offset_of frames22 ≡ offsets22
unfolding open-offsets frames22 offsets22
hold22 = refl

pub hold23 : map offset_of frames23 ≡ offsets23
unfolding open-offsets frames23 offsets23
hold23 = refl

pub hold24 : map offset_of frames24 ≡ offsets24
unfolding open-offsets frames24 offsets24
hold24 = refl

pub hold25 : map offset_of frames25 ≡ offsets25
unfolding open-offsets frames25 offsets25
hold25 = refl

pub hold26 : map offset_of frames26 ≡ offsets26
unfolding open-offsets frames26 offsets26
hold26 = refl

pub hold27 : map offset_of frames27 ≡ offsets27
unfolding open-offsets frames27 offsets27
hold27 = refl

pub hold28 : map offset_of frames28 ≡ offsets28
unfolding open-offsets frames28 offsets28
hold28 = refl

pub hold29 : map offset_of frames29 ≡ offsets29
unfolding open-offsets frames29 offsets29
hold29 = refl
