pub mod Heads
pub mod Bridged
pub mod Once
pub mod Laws
