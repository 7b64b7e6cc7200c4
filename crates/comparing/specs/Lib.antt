pub mod Text
pub mod Digests
pub mod Areas
pub mod Fields
pub mod Answers
