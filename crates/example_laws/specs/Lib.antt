pub mod ExampleModels
pub mod ExampleEntries
pub mod ExampleDemands
