-- `frames::check` meets its contract. Assumes nothing.
use Rattle.std.proofs.Common.{rules, arith, ◌∙◌, sym, ap, Ok, Err}
use Rattle.std.specs.Result.{IsErrAnd}
use Rattle.frames.specs.Messages.{parse_frame}
use Rattle.frames.specs.Refusals.{check_parsed, check_frame, verdict}
use Rattle.frames.proofs.MessageLaws.{parsed}
use Rattle.frames.proofs.NumberedLaws.{checks}
use Rattle.frames.proofs.check.Goals as goal

pub returns-in_err-f : goal.returns-in_err-f
unfolding check_frame check_parsed verdict
returns-in_err-f c =
    checks _ _ _ (rw (← c.in_err-f.ensures.exact) (grind arith))

pub judge-requires : goal.judge-requires
judge-requires c = rw c.carried.ensures (parsed c.args.frame.now c.in_ok-f.f (sym c.in_ok-f.ensures.exact)).size

pub returns-in_err-judge : goal.returns-in_err-judge
unfolding check_frame check_parsed verdict
returns-in_err-judge c = checks _ _ _ (rw (← c.in_ok-f.ensures.exact, ← c.carried.ensures, ← c.in_err-judge.ensures) (grind arith))

pub returns : goal.returns
unfolding check_frame check_parsed verdict
returns c = checks _ _ _ (rw (← c.in_ok-f.ensures.exact, ← c.carried.ensures, ← c.in_ok-judge.ensures))
