pub mod Rows
pub mod Judge
pub mod JudgedNumber
pub mod Store
