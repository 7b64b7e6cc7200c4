pub mod Open
pub mod Hold
