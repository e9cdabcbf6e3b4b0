mod NestedTemplates
mod ConcreteClasses
mod TermTypes
pub mod TypedLaws
