pub mod Arrays
pub mod Calling
pub mod Handing
pub mod Mixed
pub mod Open
pub mod Walk
