pub mod WordLaws
pub mod NumberLaws
pub mod RunLaws
pub mod CellLaws
