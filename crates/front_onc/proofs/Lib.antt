-- The proofs, each after those that it uses; * marks those that the proofs of functions use.

-- Worked rows: what short files resolve to
mod Rows
-- * Names that stay undeclared, by induction on the items
pub mod Kept
-- * A loop's step along a list
pub mod Steps
-- * An interface among others, as plain trees
pub mod Offers
-- What the names in a scope stand for, over the types so far, by induction on the scope
pub mod Standing
-- The types of declarations and structs are sound, by induction on the members
pub mod Forming
-- Enums are sound, and their labels are the numbers of their items, by induction on the items
pub mod Numbering
-- Unions are sound, by induction on the cases and on the labels of each
pub mod Labelling
-- Interfaces are sound, by induction on the versions, the procedures of each and their parameters
pub mod Offering
-- Every definition keeps what makes a unit sound, by induction on the definitions
pub mod Keeping
-- * The unit of a file is sound, by induction on its interfaces and on the operations of each
pub mod Whole
-- * The trees that the grammar gives are whole, by induction on the definitions
pub mod Derived
