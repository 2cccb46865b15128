-- The proofs, each after those that it uses; * marks those that the proofs of functions use.

-- Steps after the octets of a head, and the length of chunks, by induction on the steps and on the code
mod Following
-- * The heads of requests and of replies, and their code
pub mod Leading
-- Elements of lists, by their places
pub mod Places
-- What comes back from an operation of a binding is what its unit has: a choice of the answer and the exceptions, by induction on the interfaces
pub mod ReplyTypes
-- * The arm of a number stands at the place of the number among the arms of a reply's node, by induction on the arms
mod Numbering
-- * The arms of a reply above 0 are as many as its operation's exceptions, and over CDR as their ids, by induction on the interfaces
pub mod ArmIds
-- * The distinct types of a table stand for the types of its nodes
mod Alike
-- * The codes of operations and of their arms, one after the other
mod Chained
-- * Code costs the same with whatever head, by induction on the code
mod AnyHead
-- * What a run of an operation's code has done, as it is promised of the operation
mod Done
-- * Code without calls of some types, each at the place of its number
mod Uncalled
-- * Codes of an earlier operation, for another of which the same is promised
mod Again
-- * What requests and replies cost by the codes that are kept
mod Costing
-- * A value that was received is what the message has, and nothing else
mod Found
-- * What is lowered for a table
mod Lowering
-- What operations that receive give: the draft itself, or so many tests more at most
mod RecvGiven
-- What a run of code without calls has filled stays, by induction on the block
mod RecvLasting
-- What loops, arms and values behind flags read, with how many tests; and the value of a part that was read
mod RecvMade
-- Code in which few needs and skips stand together makes no more tests than are allowed for the value that it gives, by induction on the block
mod RecvAsking
-- Code that goes through a type, with its rows as blocks, is allowed few tests for a value, by induction on the type
mod RecvBounded
-- Chunked code makes few tests for the value that it gives
mod RecvTested
-- * What the passes make of such code sends the messages
mod Kept
-- * Chunked code receives where the given code does
mod RecvChunks
-- Code with its ensures left out stores as much, and is allowed seven moves less for each check, by induction on the code
mod Eased
-- Code that goes through a type, with its rows as blocks, has few moves and few stores, by induction on the type
mod Bounded
-- The patch at the end of a message states its length
mod Stated
-- * The code of a head, inlined code and a patch append the message
mod Meant
-- * Bodies of calls that are received: how they are laid out, and where they begin
mod Taken
-- * Code after code, as the operations are put
mod Wholes
