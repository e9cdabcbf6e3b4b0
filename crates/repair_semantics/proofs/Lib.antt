pub mod TermLaws
pub mod TieLaws
pub mod EntryOrderLaws
pub mod ItemLaws
pub mod RepairRows
pub mod EntryRows
pub mod ConflictRows
pub mod UnmetRows
