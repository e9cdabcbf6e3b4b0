pub mod TopLaws
pub mod RootLaws
pub mod NameLaws
pub mod OrderLaws
pub mod StepLaws
pub mod NoRoots
pub mod Refuting
