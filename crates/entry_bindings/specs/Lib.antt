pub mod Matches
pub mod Starts
pub mod Arguments
pub mod Joins
pub mod Asked
pub mod MatchKeys
