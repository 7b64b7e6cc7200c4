pub mod Fees
pub mod Results
pub mod Takings
