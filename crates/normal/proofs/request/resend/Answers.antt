-- `normal::request::resend` meets its contract. Assumes nothing.
use Rattle.normal.proofs.RequestLaws.{resends}
use Rattle.normal.proofs.request.resend.Goals as goal

pub returns : goal.returns
returns c =
    let a = c.args in
    resends a.s a.e a.o a.reps.now _ _ _ c.write_reply-w.ensures c.done.ensures
