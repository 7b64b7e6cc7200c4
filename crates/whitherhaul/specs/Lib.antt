pub mod Replicas
pub mod Clients
pub mod Again
pub mod Demands
pub mod Backed
