mod EntryLists
mod ListingLaws
mod SetLaws
mod ClashLaws
pub mod Refuting
