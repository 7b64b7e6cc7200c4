-- `client::read_reply` meets its contract. Assumes nothing.
use borrow.Author.Rules.{rules}
use Rattle.client.proofs.ReplyLaws.{said-or-wrong}
use Rattle.client.proofs.read_reply.Goals as goal

pub returns : goal.returns
returns c = said-or-wrong c.args.frame.now _ _ c.said.ensures c.ok_or_else.ensures.cases (λ m q. search rules)
