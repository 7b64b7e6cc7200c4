pub mod LayoutLaws
pub mod BookLift
pub mod TableLift
pub mod FollowLift
pub mod RowLift
