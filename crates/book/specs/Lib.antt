pub mod Memory
pub mod Log
pub mod Runs
