pub mod Causes
pub mod Bytes
pub mod Decimal
pub mod Limits
pub mod Lines
pub mod Memory
pub mod Stored
pub mod formers
