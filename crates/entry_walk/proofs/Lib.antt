pub mod CallOrderLaws
pub mod PlaceLaws
pub mod FinishedLaws
pub mod GrowthLaws
pub mod PathLaws
pub mod StepLaws
pub mod ExploringLaws
pub mod WayLaws
pub mod WalkLaws
pub mod EndLaws
pub mod ReachLaws
mod Refuting
