-- The proofs, each after those that it uses; * marks those that the proofs of functions use.

-- Words are grammars
pub mod Words
-- The laws of heads, from reading being one function
pub mod Lawful
-- * What is reported of a message is decided by its head, or by its first fault
pub mod Exact
-- A message has one head of a call or one first fault of it, over a binding too
pub mod Heading
-- Operations that are found from left to right
pub mod Finding
-- What is named among the operations of interfaces, by induction on the interfaces
pub mod Named
