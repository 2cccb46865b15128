-- The proofs, each after those that it uses; * marks those that the proofs of functions use.

-- The header of a message is a grammar
pub mod Headers
-- The heads of replies are a grammar
pub mod Replies
-- * A header that is read, and is not the one that is wanted, and what follows a return code
pub mod Steps
-- * The laws, over each way
pub mod Lawful
-- * Each operation of a bound unit is a routine, and ids have 31 bits, by induction on the interfaces
pub mod Counting
-- * The operation that a request names is there, and is the one of its id
pub mod Named
-- A message has one head of a request or one first fault of it, over a binding too
pub mod Heading
-- * A head as one chunk appends its octets
pub mod Coding
-- Words that are put, one after the other
pub mod Wording
-- * Heads that are sent are read as what they are sent for, and have one length
pub mod Sent
-- Heads of requests that were worked out by hand
mod Worked
