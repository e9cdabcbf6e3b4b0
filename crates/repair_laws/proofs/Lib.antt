pub mod ItemParts
pub mod ManagedLaws
mod KeyedLaws
pub mod ImageLaws
mod ObjectLaws
mod DemandedLaws
mod IdentifierLaws
mod StandingLaws
mod CandidateLaws
mod DemandLaws
mod GoneLaws
mod MadeTerms
mod RootTerms
pub mod CallTerms
mod EntryDemands
pub mod TargetVariables
pub mod EntryTerms
mod MatchedRoots
mod EntryStep
mod HandedRoots
pub mod EntryGood
pub mod TermOrder
pub mod DemandedTerms
mod CandidateReading
pub mod EntryDemanded
pub mod DatumTypes
pub mod GoingLaws
pub mod TypedData
pub mod EnforcedReading
mod ClaimLaws
mod ImageReadings
mod UnchangedLaws
mod TermListLaws
mod MovedLaws
mod MovedKeys
mod SameReadings
mod RaisedLaws
mod MatchLaws
mod FoundLaws
mod StandLaws
mod SettledLaws
mod EntriesRead
mod SecondLook
