pub mod Traces
pub mod Naming
pub mod Cuts
pub mod Givens
