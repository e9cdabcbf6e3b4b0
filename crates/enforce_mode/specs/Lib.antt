pub mod Made
pub mod Premises
pub mod Plans
pub mod Reports
