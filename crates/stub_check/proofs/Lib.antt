-- The proofs, each after those that it uses; * marks those that the proofs of functions use.

-- * A code that gets a yes appends what the kept one does, inside ensured space
pub mod AsGood
-- * A code gets one verdict, and no code gets none
pub mod Deciding
-- * The nodes of a table stand behind their children, one node after the other
pub mod Nodes
