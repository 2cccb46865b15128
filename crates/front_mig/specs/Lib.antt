pub mod Numbers
pub mod Types
pub mod State
pub mod Routines
pub mod Resolved
pub mod Held
