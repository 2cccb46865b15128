-- The proofs, each after those that it uses; * marks those that the proofs of functions use.

-- Steps that have the room they need, and what holds behind them, by induction on the steps
pub mod Leading
-- Ways of residues from a position to another: over octets, over zeros, and within a closed set
pub mod Going
-- Rooms hold of a position: behind octets, behind zeros, and where ways meet
pub mod Rooms
-- How many elements a value has: at most the greatest number of its node, and numbers of its kind
pub mod Lengths
-- Plain code ensures nothing, by induction on the block
pub mod Quiet
-- What a loop leaves, from what a turn leaves: by a credit, turn by turn, or from no room, by induction on the elements
pub mod Looping
-- A row operation leads as a loop over its numbers, each of so many octets, by induction on their number
pub mod Rows
-- The codes of a list: the calls of each, and that it is not refused, by induction on the list
pub mod Listed
-- Code that is not refused has the room that it needs, and leaves the rooms that are told, by induction on the block
pub mod Covering
-- * What passes is covered: calls by their depth, each from no room at every residue
pub mod Law
-- Codes that are refused, and codes that pass, worked out by hand
mod Worked
