pub mod CellLaws
pub mod OneAnswer
pub mod Rowed
