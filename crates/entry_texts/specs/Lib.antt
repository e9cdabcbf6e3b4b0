pub mod EntryTexts
pub mod Commas
pub mod Naming
