pub mod Begin
pub mod Record
pub mod DecisionNumber
