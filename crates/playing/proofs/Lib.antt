pub mod WordLaws
pub mod LentLaws
