pub mod Short
pub mod Open
pub mod ExportsHold
pub mod ImportsHold
