pub mod MemberLaws
pub mod CounterpartLaws
pub mod PropertyLaws
pub mod LinkLaws
pub mod UnlinkLaws
pub mod FillLaws
pub mod OrderLaws
pub mod Refuting
