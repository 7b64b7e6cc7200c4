pub mod StartViewChange
pub mod StartView
pub mod StartViewNumber
