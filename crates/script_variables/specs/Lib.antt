pub mod SettledRelations
pub mod Bindings
pub mod Derivations
pub mod Variables
pub mod ScriptSettings
