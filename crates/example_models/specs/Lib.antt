pub mod Descriptions
pub mod ClsTable
pub mod RdbTable
pub mod Source
pub mod Growing
pub mod Parts
