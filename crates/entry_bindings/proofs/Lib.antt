pub mod ArgumentLaws
pub mod ListLaws
pub mod MatchLaws
pub mod ValueLaws
pub mod Partials
pub mod Sounds
pub mod Completes
pub mod StartLaws
pub mod PairLaws
pub mod KeyLaws
pub mod DistinctLaws
pub mod WholeLaws
pub mod StepLaws
pub mod Refuting
mod WithinLaws
