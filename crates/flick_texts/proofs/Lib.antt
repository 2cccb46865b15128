-- The proofs, each after those that it uses; * marks those that the proofs of functions use.

-- * What is counted of messages, one after the other
pub mod Counting
-- * The texts of operations, one after the other, and the names of their interfaces
pub mod Listing
-- * The line of the messages that a number makes
pub mod Making
-- * What is sent of requests, one after the other, is what becomes of the buffer
pub mod Spending
-- * Names of types by their numbers, by induction on the list of types, and names in two parts
pub mod Naming
-- * What is read of a message that was made
pub mod Reading
-- * The text of a union, by induction on its arms
pub mod Unions
-- * The text of arrays of arrays, by induction on the counts
pub mod Arrays
-- Texts that were worked out by hand
mod Worked
