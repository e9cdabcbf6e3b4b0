pub mod Repaired
pub mod Examples
