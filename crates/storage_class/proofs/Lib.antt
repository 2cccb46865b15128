-- The proofs, each after those that it uses; * marks those that the proofs of functions use.

-- * Lists of eight
pub mod Eights
-- Lengths by the remainder of the position
pub mod Residues
-- * Lengths of many parts, by halves, by induction on their number
pub mod Powers
-- Lengths of wholes, from those of their parts
pub mod Within
-- * What is sent has a length that the span of its type allows, by induction on the type
pub mod Sent
-- * One more arm before the others
pub mod Known
