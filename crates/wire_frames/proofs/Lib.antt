-- The proofs, each after those that it uses; * marks those that the proofs of functions use.

-- What stands first, by the tests that were made
pub mod Choosing
-- Fragments are read as they are written, whatever follows
pub mod Fragments
-- * Fragments that were passed, and what stands first by the one behind them
pub mod Walking
-- What is found stays, whatever follows: by induction on the headers that are read
pub mod Staying
-- What is found of a message: its frame lies within the stream, and it is within the limit
pub mod Found
-- * A frame that stands first is found, and what is found is a frame
pub mod Framing
-- * A stream is cut from its front on, whatever follows: by induction on how many messages are cut off
pub mod Cutting
-- * The octets of a record, fragment by fragment
pub mod Gathering
-- * What `next` answers, by what stands first
pub mod Answering
-- * What a reader has given and keeps, from one read to the next
pub mod Stepping
-- The parts of a stream, by the messages that were given and by what is kept
pub mod Parting
