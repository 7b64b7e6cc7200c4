pub mod Remembered
pub mod Money
pub mod Demand
pub mod Ranges
pub mod Earned
pub mod Again
