pub mod Clock
pub mod Rust
