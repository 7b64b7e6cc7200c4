pub mod GetState
pub mod NewState
pub mod UseNumber
pub mod Tick
