-- `book::write_replies` meets its contract. Assumes nothing.
use mathlib.Core.Path.{refl}
use borrow.Author.Rules.{rules}
use Rattle.book.proofs.RunLaws.{replies-none, replies-more}
use Rattle.book.proofs.write_replies.Goals as goal

pub loop-k-init : goal.loop-k-init
loop-k-init c =
    let a = c.args in
    (refl, replies-none a.v a.log.now a.results.now a.from a.area.now)

pub loop-k-preserved : goal.loop-k-preserved
loop-k-preserved c =
    let a = c.args in
    let l = c.loop-k in
    let e = c.entry_in-e in
    let o = c.result_in-o in
    let m = replies-more a.v a.log.now a.results.now a.from l.k a.area.now l.area e.result o.result in
    (search rules, m l.invariant.1 e.ensures o.ensures c.write_reply.ensures.bytes)
