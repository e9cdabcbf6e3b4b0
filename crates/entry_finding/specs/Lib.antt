pub mod Premises
pub mod Found
pub mod Prepared
pub mod Made
