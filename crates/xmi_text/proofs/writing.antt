-- Lemmas on the writer: what it writes is a document.
pub mod Literals
pub mod Spelling
pub mod Escaping
pub mod Written
