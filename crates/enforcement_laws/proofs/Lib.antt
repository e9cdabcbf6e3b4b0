pub mod FreshObjects
pub mod Replacing
pub mod Repairing
pub mod EqualParts
pub mod UnchangedReports
pub mod SameNumbers
