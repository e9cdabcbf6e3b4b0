pub mod TopLaws
pub mod VerdictLaws
pub mod Refuting
