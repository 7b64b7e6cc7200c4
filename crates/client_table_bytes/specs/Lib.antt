pub mod Layout
pub mod Lawful
pub mod Steps
