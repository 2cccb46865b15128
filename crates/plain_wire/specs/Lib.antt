pub mod Widths
pub mod Rows
pub mod Readers
pub mod Answered
pub mod Sending
