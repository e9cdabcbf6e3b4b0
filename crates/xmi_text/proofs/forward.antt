-- From a document to its marks: its text is stepped over, character by character and piece by piece.
pub mod Walks
pub mod Placed
pub mod Encoded
pub mod Stepping
pub mod NameSteps
pub mod Asides
pub mod ValueSteps
pub mod TagSteps
pub mod Spelled
pub mod Timing
pub mod Silent
pub mod Stopping
pub mod Deepest
pub mod EventTrees
