pub mod UnusedLaws
pub mod HeaderLaws
pub mod MadeLaws
pub mod PlaceLaws
pub mod NumberLaws
pub mod Refuting
