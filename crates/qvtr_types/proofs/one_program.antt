-- A script without a fault resolves to one program.
pub mod Lists
pub mod Templates
pub mod Conjuncts
pub mod Relations
pub mod Queries
pub mod Faultless
pub mod Programs
