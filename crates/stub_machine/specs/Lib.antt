pub mod Codes
pub mod Picking
pub mod Putting
pub mod Run
pub mod Sending
