pub mod Counts
pub mod Asking
pub mod Words
