pub mod Refuting
mod CountingLaws
mod AskableLaws
mod RefusalLaws
mod MakingLaws
mod SatisfyingLaws
