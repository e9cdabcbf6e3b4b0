pub mod SaidLaws
pub mod OneDemandLaws
pub mod SpotOrderLaws
pub mod TableLaws
pub mod HeardLaws
pub mod LiftLaws
pub mod Refuting
