-- The proofs, each after those that it uses; * marks those that the proofs of functions use.

-- * The arm that is drawn is the one that is found, by induction on the arms
pub mod Choosing
-- * What is drawn: numbers in range, lengths that are allowed, and one of several
pub mod Drawing
-- * What is drawn for a sound type is of it, by mutual induction on types, fields and arms
pub mod Typing
-- * Values made one after the other
pub mod Weighing
