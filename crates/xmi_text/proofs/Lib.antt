pub mod reading
pub mod forward
pub mod writing
pub mod completion
pub mod backward
pub mod faults
pub mod Refuting
