-- The proofs, each after those that it uses; * marks those that the proofs of functions use.

-- * Operations of one interface and name have one type in each binding, by induction on the interfaces
pub mod Pairing
