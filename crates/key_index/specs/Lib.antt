pub mod ValueOrder
pub mod ValueOrderLaws
pub mod HolderOrder
pub mod Holders
pub mod Entries
pub mod Instances
pub mod Indexes
