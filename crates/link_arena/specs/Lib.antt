pub mod Links
pub mod Threads
pub mod Lists
pub mod Twins
