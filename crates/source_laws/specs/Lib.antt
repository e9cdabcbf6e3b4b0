pub mod Agreement
pub mod SourceValues
pub mod SourceExpressions
pub mod SourceRelations
pub mod TargetRule
pub mod CallsAlike
