pub mod Graphs
pub mod Searches
pub mod Strata
pub mod Tops
pub mod Walks
