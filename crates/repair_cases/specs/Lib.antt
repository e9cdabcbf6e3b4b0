pub mod Roots
pub mod Small
