-- Lemmas on the reader: what was stepped over, what more bytes change, which answers are fixed.
pub mod AttrLemmas
pub mod Reached
pub mod Staying
pub mod Breaking
pub mod Fixed
