pub mod Lent
pub mod Calls
pub mod Meaning
pub mod Promise
pub mod Again
pub mod Demands
pub mod Backed
pub mod Marked
