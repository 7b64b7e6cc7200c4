-- `normal::request::on_request` meets its contract. Assumes nothing.
use mathlib.Core.Path.{sym, ◌∙◌}
use native.Mathlib.Omega.{arith}
use lib.ListN.{length}
use Rattle.config.proofs.SetupLaws.{sized}
use Rattle.normal.proofs.RequestLaws.{resend-fits, append-fits, nothing, answers, refuses, takes}
use Rattle.normal.proofs.request.on_request.Goals as goal

pub weigh-requires : goal.weigh-requires
weigh-requires c =
    let z = sized c.args.s.setup c.requires.sized in
    (omega (arith, z.three), z.seven)

pub resend-requires : goal.resend-requires
resend-requires c =
    let a = c.args in
    resend-fits a.s (length a.out.now) (length a.reps.now) a.e a.latest
    (sym c.weigh.ensures.exact ∙ c.in-Resend.is)

pub accept-requires : goal.accept-requires
accept-requires c =
    let a = c.args in
    let v = sym c.weigh.ensures.exact ∙ c.in-Append.is in
    (c.requires, append-fits a.s (length a.out.now) (length a.reps.now) a.e a.latest v)

pub returns-in-Nothing : goal.returns-in-Nothing
returns-in-Nothing c =
    let a = c.args in
    nothing a.s a.e a.latest a.log.now a.acks.now a.out.now a.reps.now _
    (sym c.weigh.ensures.exact ∙ c.in-Nothing.is) c.done.ensures

pub returns-in-Resend : goal.returns-in-Resend
returns-in-Resend c =
    let a = c.args in
    answers a.s a.e a.latest a.log.now a.acks.now a.out.now a.reps.now _ _ _
    (sym c.weigh.ensures.exact ∙ c.in-Resend.is)
    c.resend.ensures

pub returns-in-Refuse : goal.returns-in-Refuse
returns-in-Refuse c =
    let a = c.args in
    refuses a.s a.e a.latest a.log.now a.acks.now a.out.now a.reps.now _ _
    (sym c.weigh.ensures.exact ∙ c.in-Refuse.is) c.refused.ensures

pub returns-in-Append : goal.returns-in-Append
returns-in-Append c =
    let a = c.args in
    let v = sym c.weigh.ensures.exact ∙ c.in-Append.is in
    let p = c.accept.ensures in
    takes a.s a.e a.latest a.log.now a.acks.now a.out.now a.reps.now _ _ _ _ v p
