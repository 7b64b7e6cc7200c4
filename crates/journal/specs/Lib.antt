pub mod Refusals
pub mod Journal
pub mod Examining
pub mod Steps
pub mod Calls
pub mod Laws
