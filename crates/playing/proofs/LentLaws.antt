-- A part of the memory's runs is that part of any front that it lies in. Assumes nothing.
use Rattle.std.proofs.Common.{◌≡◌, ℕ, ◌+◌, ◌-◌, ◌≤◌, List, take, drop, take-take, arith}
use Rattle.std.proofs.lemmas.List.{drop-take}

pub part-in-front : (a n b : ℕ) (s : List ℕ) {front : List ℕ} → a + n ≤ b → front ≡ take b s → take n (drop a front) ≡ take n (drop a s)
part-in-front a n b s h e =
    let there : b ≡ a + (b - a) = omega arith in
    rw (e, there, drop-take a (b - a) s) (take-take n (b - a) (drop a s) (omega arith))
