pub mod Edges
pub mod Names
pub mod Spelled
pub mod Trees
pub mod Places
