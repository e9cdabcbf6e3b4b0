pub mod Counterparts
pub mod Unlinked
pub mod Filling
