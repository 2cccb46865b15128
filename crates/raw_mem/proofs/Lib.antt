-- The proofs, each after those that it uses; * marks those that the proofs of functions use.

-- * Octets side by side: those from a place on are taken out, as room for an array or as an array, and put back. Assumes `Logic`
pub mod Cells
-- * What a `Vec` of octets owns: its octets, and what goes with them. Assumes `Logic`
pub mod Homes
-- * What a struct owns is put together from what its fields own. Assumes `Logic`
pub mod Structs
