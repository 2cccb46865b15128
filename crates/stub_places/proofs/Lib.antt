-- The proofs, each after those that it uses; * marks those that the proofs of functions use.

-- * A number that is found among cases has a case
pub mod CasesFound
-- Lists of eight: what is at the residues 0 to 7
pub mod Eights
