pub mod Setup
pub mod Replicas
