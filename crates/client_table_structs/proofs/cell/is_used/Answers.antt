-- `client_table_structs::cell::is_used` meets its contract. Assumes nothing.
use borrow.Author.Rules.{rules}
use Rattle.client_table_structs.specs.Shape.{is_used}
use Rattle.client_table_structs.proofs.cell.is_used.Goals as goal

pub returns-in-Unused : goal.returns-in-Unused
unfolding is_used
returns-in-Unused c = search rules

pub returns-in-Waiting : goal.returns-in-Waiting
unfolding is_used
returns-in-Waiting c = search rules

pub returns-in-Kept : goal.returns-in-Kept
unfolding is_used
returns-in-Kept c = search rules
