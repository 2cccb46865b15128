-- The proofs, each after those that it uses; * marks those that the proofs of functions use.

-- * Names that are equal but for their case
pub mod Cases
-- Words in any letter case, and identifiers: what is read is what is spelled
pub mod WordsRead
-- Types: what is read is what is spelled
pub mod TypesRead
-- Routines: what is read is what is spelled
pub mod RoutinesRead
-- * Statements, and the heading of a file: what is read is what is spelled
pub mod StatementsRead
-- * Files: their trees, and the lines on which tokens without one fail
pub mod Fronts
