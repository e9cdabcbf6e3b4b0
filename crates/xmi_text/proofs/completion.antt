-- The invariant of states, the completion of bytes, and the bytes before a fault.
pub mod Sound
pub mod Completing
pub mod Ending
pub mod Places
