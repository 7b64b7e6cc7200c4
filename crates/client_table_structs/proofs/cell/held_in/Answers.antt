-- `client_table_structs::cell::held_in` meets its contract. Assumes nothing.
use borrow.Author.Rules.{rules}
use Rattle.client_table_structs.specs.Shape.{reply_in}
use Rattle.client_table_structs.proofs.cell.held_in.Goals as goal

pub returns-in-Unused : goal.returns-in-Unused
unfolding reply_in
returns-in-Unused c = search rules

pub returns-in-Waiting : goal.returns-in-Waiting
unfolding reply_in
returns-in-Waiting c = search rules

pub returns-in-Kept : goal.returns-in-Kept
unfolding reply_in
returns-in-Kept c = search rules
