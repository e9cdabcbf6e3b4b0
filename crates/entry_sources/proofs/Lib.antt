pub mod ItemPlaces
pub mod MakingLaws
