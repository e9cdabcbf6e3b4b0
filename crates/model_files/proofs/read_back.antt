-- What is written of a model as JSON is read as the same model.
pub mod Members
pub mod Texts
pub mod Slots
pub mod Objects
pub mod Values
pub mod Linking
pub mod Dense
pub mod Reading
