pub mod Sound
pub mod Calls
pub mod CheckedNumbers
pub mod Creation
pub mod Takings
