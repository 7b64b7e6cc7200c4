pub mod FeeLaws
pub mod ResultLaws
pub mod TakingsLaws
