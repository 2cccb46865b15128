-- The proofs, each after those that it uses; * marks those that the proofs of functions use.

-- * Each operation of a bound unit is one that requests name
pub mod Counting
-- * No name of a bound unit is too long, by induction on the interfaces; so a head has fewer than 2^32 octets
pub mod Short
-- * A head as chunks appends its octets
pub mod Coding
-- * Fields that are put after octets depend on the length of these alone, so the id may be put in later
pub mod Growing
-- * The ids of exceptions
pub mod Ids
-- Octets that are known by another name
pub mod Along
-- A message has one head of a request or one first fault of it, over a binding too
pub mod Heading
-- * The operation that a request names is there, and is the one of its name, of the interface whose name is the key
pub mod Named
-- * A name that is picked among those that are kept is the one that is sought, by induction on the interfaces
pub mod Picking
-- * An exception that is found among those that are kept is the one that a reply tells, by induction on the interfaces
pub mod Raising
-- * A head is sent as one that a body follows exactly where octets follow it
pub mod Following
-- * A number that is found by a tree, or one by one, is that among the names
pub mod Listed
