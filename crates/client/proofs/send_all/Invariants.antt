-- `client::send_all` meets its contract. The invariant: the frames to the replicas below `to` stand over the front of the area. Assumes nothing.
use mathlib.Core.Path.{◌≡◌}
use Prim.Native.Nat.{◌*◌}
use Rattle.numbers.specs.Numbers.{over}
use Rattle.client.specs.Client.{frames_to}
use Rattle.client.proofs.send_all.Given as goal

abbrev pub invariant-loop-to : goal.invariant-loop-to
invariant-loop-to l = record { frames : l.area ≡ over (frames_to l.to l.e) l.initial.area; count : l.at ≡ l.to * 39 }
