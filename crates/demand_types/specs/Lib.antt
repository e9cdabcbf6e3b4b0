pub mod TypedDemands
