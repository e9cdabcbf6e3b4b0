pub mod Words
pub mod MainProgram
