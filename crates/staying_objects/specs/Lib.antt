pub mod Nested
pub mod Classes
pub mod Kinds
pub mod Fates
