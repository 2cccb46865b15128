pub mod Exprs
pub mod Values
