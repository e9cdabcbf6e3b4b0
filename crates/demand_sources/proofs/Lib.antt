pub mod EntriesMoved
pub mod ChainsMoved
