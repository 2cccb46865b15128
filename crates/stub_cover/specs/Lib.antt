pub mod Rooms
pub mod Covers
pub mod Laws
