pub mod Counts
pub mod Files
pub mod Sinks
pub mod Tallies
pub mod Stores
