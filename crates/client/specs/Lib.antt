pub mod Refusals
pub mod Client
pub mod Calls
pub mod Outcomes
pub mod Replies
