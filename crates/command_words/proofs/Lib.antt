pub mod ArgumentsLaws
mod WordLaws
mod WalkLaws
mod CommandLaws
mod ReadingLaws
mod ValueLaws
