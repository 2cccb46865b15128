pub mod Draws
pub mod Made
pub mod Making
