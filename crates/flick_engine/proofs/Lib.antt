-- The proofs, each after those that it uses; * marks those that the proofs of functions use.

-- What holds of the heads of each back end
pub mod HeadsOfBacks
-- * What is picked among the names that an engine keeps over CDR
pub mod Picking
-- * What a message is, is determined, since it is what reading from left to right gives
pub mod Deciding
-- * Octets are always something
pub mod Existing
-- * What a message is, by what its body was read as
pub mod Answering
-- Operations without a body send nothing after their heads
pub mod Bodies
-- * What is sent is what is received
pub mod Back
-- * The operations of a binding are those of its unit, by induction on the interfaces
pub mod Operating
-- * The arms of what comes back from an operation, by induction on the arms
pub mod Arming
-- * What holds of the heads of replies over each back end
pub mod RepliesOfBacks
-- * What a message is as a reply is determined, since it is what reading from left to right gives
pub mod DecidingReplies
-- * An arm that the head of a reply tells is one of the operation's reply
pub mod ArmsReported
-- * Octets are always something as a reply to an operation
pub mod ExistingReplies
-- The heads of replies that are sent are received as what they say
pub mod RepliesSent
-- * A reply that is sent is what is received
pub mod RepliesBack
-- * What a message is as a reply, by what its body was read as
pub mod AnsweringReplies
-- * What messages are whose heads are not those of calls, over each back end, and calls of which more is read
pub mod Searching
-- * How messages are answered, by what the parts of the code answer
pub mod Replying
-- * What a served message costs: its reply costs what the code of the arm does, and its request is read by the operation's code
pub mod ServingCosts
-- * How a message is answered is determined, and each is answered in some way
pub mod Servings
