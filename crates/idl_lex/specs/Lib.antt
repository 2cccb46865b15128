pub mod Classes
pub mod Numbers
pub mod Lines
pub mod Quotes
pub mod Files
pub mod Pieces
pub mod Lexed
pub mod Reads
