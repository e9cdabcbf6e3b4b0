-- From whole bytes back to the pieces of their document.
pub mod Parsing
pub mod Backward
pub mod Backsteps
pub mod Backtags
pub mod Backends
pub mod Backrefs
pub mod Backfar
pub mod Whole
