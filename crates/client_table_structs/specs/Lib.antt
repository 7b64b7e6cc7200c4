pub mod Lawful
pub mod Shape
