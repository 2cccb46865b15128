-- The proofs, each after those that it uses; * marks those that the proofs of functions use.

-- Tables of replies that fit the operations of a binding
pub mod Keeping
