pub mod Names
pub mod State
pub mod Declarations
pub mod Enums
pub mod Unions
pub mod Programs
pub mod Resolved
pub mod Held
