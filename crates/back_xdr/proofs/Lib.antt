-- The proofs, each after those that it uses; * marks those that the proofs of functions use.

-- Pads are grammars, by induction on their length
pub mod Pads
-- Credentials and verifiers are a grammar
pub mod Auths
-- The heads of calls are a grammar
pub mod Calls
-- The heads of replies are a grammar
pub mod Replies
-- * The laws, over each way
pub mod Lawful
-- * Pads, octet by octet
pub mod Steps
-- * Each operation of a bound unit is a procedure, and its number is that of its place
pub mod Counting
-- * The procedure of an operation is found in the operation's own interface, by induction on the interfaces
pub mod Homes
-- * How many operations the interfaces before one have, by induction on the interfaces
pub mod Before
-- * A head as one chunk appends its octets
pub mod Coding
-- * The operation that a call names is there, and is the procedure that it calls
pub mod Named
-- A message has one head of a call or one first fault of it, over a binding too
pub mod Heading
-- * Heads that are sent are read as what they are sent for, and have one length
pub mod Sent
-- * The refusals of this format are those that have octets
pub mod Refusing
