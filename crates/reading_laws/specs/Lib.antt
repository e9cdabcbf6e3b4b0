pub mod Keyed
pub mod Readings
pub mod ReadCalls
pub mod Matching
pub mod Roots
pub mod Partners
pub mod EntryPremises
