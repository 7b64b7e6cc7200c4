pub mod Shape
pub mod ClientShape
pub mod Runs0
pub mod Runs1
pub mod Runs2
pub mod Clients0
