pub mod Statuses
pub mod State
pub mod Answers
pub mod Lengths
pub mod Sound
