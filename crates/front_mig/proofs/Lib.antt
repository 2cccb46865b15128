-- The proofs, each after those that it uses; * marks those that the proofs of functions use.

-- Files worked out by hand
mod Rows
-- * What a name stands for in one scope before another, by induction on the scope
pub mod Tables
-- What names stand for, and the types that are made of them, over so many types of the unit, by induction on the scope
pub mod Standing
-- Every statement keeps what makes a unit sound, by induction on the statements
pub mod Keeping
-- * The unit of a file is sound, by induction on its operations
pub mod Whole
