pub mod Votes
pub mod Tick
