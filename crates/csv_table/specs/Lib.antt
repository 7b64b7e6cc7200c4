pub mod Refusal
pub mod Rows
pub mod Table
pub mod Fields
pub mod Reading
pub mod Calls
pub mod Laws
