pub mod NumberedClaims
pub mod Heard
pub mod NumberedDemands
pub mod NumberedConflicts
