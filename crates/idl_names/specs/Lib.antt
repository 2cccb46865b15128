pub mod Answers
pub mod Lists
pub mod Names
pub mod Uses
pub mod Labels
pub mod Arms
