-- `frames::offset::some_fits` meets its contract. The invariant: no kind below k fits. Assumes nothing.
use Rattle.std.specs.Prelude.{◌≡◌, ◌-◌, false}
use Rattle.frames.specs.FrameRules.{some_fits}
use Rattle.frames.proofs.offset.some_fits.Given as goal

abbrev pub invariant-loop-k : goal.invariant-loop-k
invariant-loop-k l = some_fits (l.k - 1) l.n ≡ false
