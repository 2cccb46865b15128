pub mod Around
pub mod Names
pub mod Finding
pub mod Consts
pub mod Parted
pub mod Stored
