pub mod ScriptLaws
pub mod Refuting
