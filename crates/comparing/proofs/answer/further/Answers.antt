-- `comparing::answer::further` meets its contract. Assumes nothing.
use Rattle.comparing.proofs.AnswerLaws.{nonce-differs, reports-differ, further_same}
use Rattle.comparing.proofs.answer.further.Goals as goal

pub returns-then-decimal-s : goal.returns-then-decimal-s
returns-then-decimal-s c = nonce-differs c.args.s c.args.line.now c.args.mem.now c.decimal.result 0 0 c.decimal.ensures c.if-decimal-s.true

pub returns-then-hexadecimal-reports : goal.returns-then-hexadecimal-reports
returns-then-hexadecimal-reports c = reports-differ c.args.s c.args.line.now c.args.mem.now c.decimal.result c.hexadecimal.result c.reports.result c.decimal.ensures c.if-decimal-s.false c.hexadecimal.ensures c.reports.ensures c.if-hexadecimal-reports.true

pub returns : goal.returns
returns c = further_same c.args.s c.args.line.now c.args.mem.now c.decimal.result c.hexadecimal.result c.reports.result c.decimal.ensures c.if-decimal-s.false c.hexadecimal.ensures c.reports.ensures c.if-hexadecimal-reports.false
