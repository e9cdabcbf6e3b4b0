pub mod Lists
pub mod ScriptReadings
pub mod Grammar
pub mod Beginnings
pub mod Answers
