pub mod RowLaws
pub mod TableLaws
pub mod KeptLaws
pub mod TakingsLaws
pub mod AgainLaws
pub mod CreateLaws
pub mod StartLaws
pub mod PromiseLaws
pub mod CallLaws
mod KnownLaws
pub mod DemandLaws
pub mod CreateDemands
pub mod BackedLaws
pub mod FoundLift
pub mod MarkedHold
pub mod SufficeLaws
pub mod PointLaws
pub mod ReplyLaws
