-- The definitions answer as recorded: antt computes it. By tools/model-replay. Assumes nothing.
use mathlib.Core.Path.{refl}
use Rattle.against_rust.specs.ClientShape.{ClientRunHolds}
use Rattle.against_rust.proofs.OpenClients.{open-client-runs}
use Rattle.recorded.specs.Clients0.{client0, client1, client2, client3, client4, client5}

pub hold0 : ClientRunHolds client0
unfolding open-client-runs client0
hold0 = refl

pub hold1 : ClientRunHolds client1
unfolding open-client-runs client1
hold1 = refl

pub hold2 : ClientRunHolds client2
unfolding open-client-runs client2
hold2 = refl

pub hold3 : ClientRunHolds client3
unfolding open-client-runs client3
hold3 = refl

pub hold4 : ClientRunHolds client4
unfolding open-client-runs client4
hold4 = refl

pub hold5 : ClientRunHolds client5
unfolding open-client-runs client5
hold5 = refl
