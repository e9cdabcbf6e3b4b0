pub mod EmptyLaws
pub mod PremiseLaws
pub mod RefusalLaws
pub mod SecondLaws
pub mod RunLaws
