-- `frames::carried_bytes` meets its contract. Assumes nothing.
use mathlib.Core.Path.{ap}
use Rattle.frames.specs.declared.Carried.{Carried}
use Rattle.frames.proofs.MessageLaws.{bytes-none, bytes-are}
use Rattle.frames.proofs.carried_bytes.Goals as goal

pub returns-then-frame-at : goal.returns-then-frame-at
returns-then-frame-at c =
    let a = c.args in
    bytes-none a.m a.frame.now _ (ap (λ (x : Carried). x.start) c.carried-x.ensures) c.if-frame-at.true

pub returns : goal.returns
returns c =
    let a = c.args in
    bytes-are a.m a.frame.now _ (ap (λ (x : Carried). x.start) c.carried-x.ensures)
