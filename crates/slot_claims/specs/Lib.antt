pub mod HeldValues
pub mod ObjectClaims
pub mod ClaimOrder
pub mod DemandClaims
pub mod Staying
