-- `client::resend_len` meets its contract. Assumes nothing.
use Rattle.client.specs.Client.{frames_again}
use Rattle.client.proofs.RefusalLaws.{frames-length}
use Rattle.client.proofs.resend_len.Goals as goal

pub returns-in-None : goal.returns-in-None
unfolding frames_again
returns-in-None c = rw c.in-None.is

pub returns-in-Some : goal.returns-in-Some
unfolding frames_again
returns-in-Some c = rw (c.in-Some.is, frames-length)
