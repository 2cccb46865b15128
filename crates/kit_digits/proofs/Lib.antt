-- The proofs, each after those that it uses; * marks those that the proofs of functions use.

-- * Digits one by one, by induction on the digits
pub mod Digits
-- * Digits are ASCII text, by induction on the digits
pub mod Letters
-- * The digits of octets one after the other, by induction on the octets
pub mod Appended
