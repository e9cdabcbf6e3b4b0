pub mod HeldLaws
pub mod SlotLaws
pub mod LookingLaws
pub mod ReportLaws
pub mod PlacingLaws
pub mod MadeLaws
pub mod Refuting
