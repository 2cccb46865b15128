-- The proofs, each after those that it uses; * marks those that the proofs of functions use.

-- Octets that are there or not: one after the other, where everything fits, and to which residues they lead
pub mod Ends
-- The octets of a number by their place, whatever its width is
pub mod Octets
-- What items append to octets, for a head and a value; that every number fits is counted in them
pub mod Told
-- How many numbers of a block lack octets is counted in its items: sums over cells, puts and chunks
pub mod Counted
-- A chunk appends the octets of its items where each of its numbers fits, else it has none, by induction on puts and cells
pub mod Chunks
-- Sets of residues: what a way does not leave, and where octets and aligns lead
pub mod Sets
-- The part of a value at a path is of the node of its place, by induction on the path
pub mod PartsTyped
-- A row operation appends what a loop over its numbers appends, by induction on the numbers
pub mod Rows
-- Each call of the codes that are found leads to the node of the code that it names, by induction on the rounds
pub mod Found
-- A block appends what its items append, from each position whose residue they were made for, by induction on the block
pub mod Blocks
-- * Codes of one flat have one meaning, by induction on the depth of calls
pub mod OneMeaning
-- Codes worked by hand: what is left of them
mod Worked
