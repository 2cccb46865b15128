pub mod Lanes
pub mod Swapped
