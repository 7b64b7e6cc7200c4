-- `csv_table::fields::header_word` meets its contract: each arm's word is the header's of that number.
-- Assumes nothing.
use mathlib.Core.Path.{◌≡◌}
use native.Mathlib.Omega.{arith}
use Rattle.csv_table.specs.Table.{header_words}
use Rattle.csv_table.proofs.fields.header_word.Goals as goal

pub returns-in-0 : goal.returns-in-0
unfolding header_words
returns-in-0 c = rw c.in-0.is

pub returns-in-1 : goal.returns-in-1
unfolding header_words
returns-in-1 c = rw c.in-1.is

pub returns-in-2 : goal.returns-in-2
unfolding header_words
returns-in-2 c = rw c.in-2.is

pub returns-in-3 : goal.returns-in-3
unfolding header_words
returns-in-3 c = rw c.in-3.is

pub returns-in-4 : goal.returns-in-4
unfolding header_words
returns-in-4 c = rw c.in-4.is

pub returns-in_default : goal.returns-in_default
unfolding header_words
returns-in_default c = let e : c.args.k ≡ 5 = omega arith in rw e
