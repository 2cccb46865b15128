pub mod Given
pub mod Served
pub mod Spent
pub mod Laws
