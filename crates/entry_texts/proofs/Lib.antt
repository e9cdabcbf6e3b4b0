pub mod PairLaws
pub mod CommaLaws
pub mod KeyLaws
pub mod PropLaws
