pub mod Shape
pub mod Writes
pub mod Reads
