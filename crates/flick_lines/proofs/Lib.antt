-- The proofs, each after those that it uses; * marks those that the proofs of functions use.

-- A line has one answer
pub mod Determined
-- * Each line has an answer
pub mod Existing
-- What is written has no float, by mutual induction on faces, parts and arms
pub mod Floats
-- * What follows for an answer, if there is one
pub mod Options
-- * What a record that was read, or refused, is answered
pub mod Recorded
-- * The tree of a line that is text
pub mod Trees
-- Bindings of one unit over one back end have the same operations and messages, whatever numbers their nodes have
pub mod Twins
-- Records begin the same over bindings of one unit over one back end, by induction on the operations
pub mod TwinRecords
-- Messages are read the same over bindings of one unit over one back end, and have the same records
pub mod TwinMessages
-- Lines are answered the same over bindings of one unit over one back end; by `count` where the code is the same
pub mod Alike
-- * The text of what a message is
pub mod Written
-- * What becomes of a buffer where a record was read, or refused
pub mod Paying
-- * Lines whose records are read without their trees are answered by their trees
pub mod WithoutTrees
-- * Each message has counts
pub mod Counting
-- * What is sent of a line is what its answer makes of the buffer, and what is sent one after the other adds up
pub mod Sending
-- Counts that were worked out by hand
mod Worked
