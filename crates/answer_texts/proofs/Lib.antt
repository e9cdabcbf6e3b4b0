pub mod TellingLaws
pub mod Refuting
