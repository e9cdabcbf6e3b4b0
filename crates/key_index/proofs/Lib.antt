pub mod OrderLaws
pub mod RangeLaws
pub mod EntryLaws
pub mod HolderLaws
pub mod KindLaws
pub mod InstanceLaws
