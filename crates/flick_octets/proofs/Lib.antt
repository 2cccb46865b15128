-- The proofs, each after those that it uses; * marks those that the proofs of functions use.

-- * Entries one after the other
pub mod Laying
