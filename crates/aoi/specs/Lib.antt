pub mod Shapes
pub mod FullNames
pub mod Names
pub mod Units
pub mod Sound
pub mod Plain
pub mod Stored
