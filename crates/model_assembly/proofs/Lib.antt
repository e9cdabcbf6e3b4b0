pub mod Small
pub mod ReadingExamples
pub mod WritingParts
pub mod HeldLaws
pub mod PlaceLaws
pub mod assembling
pub mod Refuting
