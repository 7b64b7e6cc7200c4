-- Laws of a result: it is a cell of 9 bytes (`result-codec`), and what reading its two fields gives (`result_of-at`). Assumes nothing.
use mathlib.Core.Path.{◌≡◌, refl}
use mathlib.Core.List.{List, ◌++◌}
use Prim.Native.Nat.{ℕ, ◌+◌, ◌≤◌}
use native.Mathlib.Nat.{add-zero}
use native.Mathlib.Omega.{arith}
use lib.ListN.{length, drop}
use Rattle.numbers.specs.Numbers.{big, num}
use Rattle.numbers.specs.Cells.{Codec}
use Rattle.numbers.proofs.NumberLaws.{be-big, num-drop, num-front}
use Rattle.fees.specs.Results.{result_of, encode_result, ResultFits}
use Rattle.fees.specs.declared.Outcome.{Outcome}

length-result : (o : Outcome) → length (encode_result o) ≡ 9
unfolding encode_result big
length-result o = refl

result-front : (x y : List ℕ) → 9 ≤ length x → result_of (x ++ y) ≡ result_of x
unfolding result_of
result-front x y h = rw (num-front 1 0 x y (omega arith), num-front 8 1 x y (omega arith))

result-back : (o : Outcome) (rest : List ℕ) → ResultFits o → result_of (encode_result o ++ rest) ≡ o
unfolding result_of encode_result big num
result-back o rest f = λ i. record { code = be-big 1 o.code f.code i; total = be-big 8 o.total f.total i }

pub result-codec : Codec 9 result_of encode_result ResultFits
result-codec = record { width = length-result; front = result-front; back = result-back }

pub result_of-at : (s : List ℕ) (at : ℕ) {code total : ℕ} → code ≡ num 1 at s → total ≡ num 8 (at + 1) s
    → ◌≡◌ {A = Outcome} (record { code = code; total = total }) (result_of (drop at s))
unfolding result_of
result_of-at s at p q = rw (num-drop 1 at 0 s, num-drop 8 at 1 s, add-zero, ← p, ← q)
