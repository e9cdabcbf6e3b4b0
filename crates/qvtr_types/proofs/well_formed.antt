-- A program that is what a script resolves to, where no fault stands in that, is well formed.
pub mod Numbers
pub mod Templates
pub mod Equations
pub mod Domains
pub mod Clauses
pub mod Universal
pub mod Trees
pub mod Sides
pub mod Shapes
pub mod Typing
pub mod Meant
pub mod Apart
pub mod Ranges
pub mod Types
pub mod Whole
