pub mod ReplicaLaws
pub mod SetupLaws
