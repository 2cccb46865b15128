-- The proofs, each after those that it uses; * marks those that the proofs of functions use.

-- Runs of octets, each reversed: one, one after the other, and swapped twice, by induction on their number
pub mod Swapping
-- * One more vector, and one more number, of a row that is swapped from its beginning on
pub mod Moving
