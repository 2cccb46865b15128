-- The proofs, each after those that it uses; * marks those that the proofs of functions use.

-- * Octets that have one octet 0, which is the last, by induction on the octets
pub mod Ended
-- What the fields of heads are made of is a grammar each
pub mod Leaves
-- * Unsigned longs, unsigned shorts and booleans as they are read
pub mod Steps
-- * Service contexts and principals are passed over, one by one
pub mod Passed
-- What differs between versions is a grammar in each
pub mod ByVersion
-- The header of a message is a grammar, whatever is expected
pub mod Headers
-- The heads of Request and LocateRequest messages are a grammar
pub mod Calls
-- * The heads of Reply messages are a grammar
pub mod Replies
-- * The laws, over each way
pub mod Lawful
-- * Octets that are put into a buffer
pub mod Putting
-- What is put after octets spells what it is put for
pub mod Sending
-- * Heads that are sent are read as what they are sent for
pub mod Sent
-- What is read in two ways: the minor number of what is read, and requests among all that asks
pub mod Ways
