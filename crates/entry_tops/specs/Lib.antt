pub mod Tops
pub mod TopOrder
pub mod EntryNames
pub mod Steps
