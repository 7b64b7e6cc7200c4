pub mod Layout
pub mod Shown
