pub mod Placing
pub mod Parts
