pub mod TestLaws
pub mod NormalOnward
pub mod UsualLaws
