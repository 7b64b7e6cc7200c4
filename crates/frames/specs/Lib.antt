pub mod Kinds
pub mod FrameRules
pub mod Messages
pub mod Refusals
pub mod Numbered
pub mod Looks
