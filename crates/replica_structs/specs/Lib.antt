pub mod Core
pub mod Calls
pub mod Promise
pub mod Demands
pub mod Backed
