pub mod Arguments
pub mod Synopses
pub mod Commands
pub mod Causes
