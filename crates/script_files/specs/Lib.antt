pub mod ScriptErrors
pub mod Scripts
pub mod ScriptTexts
