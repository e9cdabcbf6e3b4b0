pub mod Walks
pub mod CallOrder
pub mod FinishedTables
pub mod Paths
pub mod Explored
pub mod Ends
pub mod Walking
