pub mod Trees
pub mod Levels
pub mod Stored
pub mod TreeFalls
pub mod Words
pub mod Spelling
pub mod Readers
