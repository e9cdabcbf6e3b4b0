pub mod Premises
pub mod Endings
pub mod StepTexts
pub mod EnforceAnswer
pub mod Readied
pub mod Satisfying
