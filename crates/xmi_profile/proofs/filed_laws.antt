-- The flat lists are what the elements of a file write.
pub mod ObjectLaws
pub mod WordLaws
pub mod MetLaws
pub mod EntryLaws
pub mod SaidLaws
pub mod NamedLaws
pub mod PlacedLaws
pub mod FiledLaws
pub mod StorableLaws
pub mod TypedLaws
pub mod IdentifierLaws
pub mod FileableLaws
