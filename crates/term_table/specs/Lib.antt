pub mod TermTables
pub mod NumberOrder
pub mod Kept
pub mod Compared
pub mod Sorting
