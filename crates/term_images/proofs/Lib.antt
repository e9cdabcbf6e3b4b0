pub mod HeldLaws
pub mod KeyLaws
pub mod IndexLaws
pub mod FoundLaws
pub mod Refuting
