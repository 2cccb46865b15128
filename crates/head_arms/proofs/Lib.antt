-- The proofs, each after those that it uses; * marks those that the proofs of functions use.

-- The numbers of arms are grammars
pub mod Armed
-- * What comes back from an operation has an arm for its answer and for each exception, by induction on the interfaces
pub mod Raising
