pub mod NumberLaws
pub mod TermTableLaws
pub mod KeptLaws
pub mod ComparedLaws
pub mod TermOrderLaws
pub mod SortedLaws
