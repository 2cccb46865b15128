-- The proofs, each after those that it uses; * marks those that the proofs of functions use.

-- Octets begin with one part of a file of stubs, or with none
pub mod Parts
-- * The answers to a file of stubs are determined, by induction on its parts, and are something, by induction on its length
pub mod Deciding
-- * A code that gets a yes sends the messages of requests
pub mod Sending
-- * One part more is answered
pub mod Going
-- * Octets are two lists, one after the other, exactly where what is left behind the first is the second
pub mod Stripped
