-- The proofs, each after those that it uses; * marks those that the proofs of functions use.

-- * Counting up to the end of a comment
pub mod Counts
-- * A number grows with each digit, by induction on the digits
pub mod Digits
-- The first octet of a text decides which sort of piece comes first
pub mod Firsts
-- * What is read at a place is the piece that is there, and no other is, by induction on the pieces
pub mod Standing
-- * The tokens so far are those of the text so far, by induction on the pieces
pub mod Reading
-- * A text has tokens or a first fault, by induction on a bound on the octets that are left
pub mod Deciding
