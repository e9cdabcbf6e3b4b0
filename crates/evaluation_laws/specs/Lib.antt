pub mod TypedValues
pub mod Literals
pub mod Evaluable
pub mod Scopes
pub mod Sources
pub mod Held
pub mod SmallValues
