pub mod RuleLaws
pub mod FieldLaws
pub mod PlaceLaws
pub mod ReadLaws
pub mod OffsetLaws
