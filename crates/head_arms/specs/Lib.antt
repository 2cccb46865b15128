pub mod Arms
pub mod Raised
