pub mod Shape
pub mod Exports
pub mod Imports
