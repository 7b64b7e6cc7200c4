pub mod Shape
pub mod Latest
pub mod Search
pub mod Rows
pub mod Lawful
pub mod Leaves
pub mod Found
