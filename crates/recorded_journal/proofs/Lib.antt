pub mod Open
pub mod WritesHold
pub mod ReadsHold
