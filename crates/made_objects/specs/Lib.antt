pub mod Making
pub mod Headers
pub mod Numbers
