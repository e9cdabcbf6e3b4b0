pub mod KeyReadings
pub mod Extents
pub mod ClassIndexes
pub mod FoundImages
