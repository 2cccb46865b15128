pub mod Acting
pub mod Codes
pub mod Drawn
pub mod Flat
pub mod Looping
pub mod Picking
pub mod Ran
pub mod Sizes
