pub mod KindLaws
pub mod NestedLaws
pub mod ClassLaws
pub mod DeletedLaws
pub mod FateLaws
pub mod Refuting
