-- The proofs, each after those that it uses; * marks those that the proofs of functions use.

-- Exceptions stay sound when types are put after others, by induction on the exceptions
pub mod Lasting
-- What the names of a file stand for, over the types so far
pub mod Standing
-- The types that are used are sound, by induction on the bounds of sequences and the lengths of arrays
pub mod Shaping
-- The fields of structs and exceptions are sound, by induction on the members and on the declarators of each
pub mod Filling
-- Enumerations are sound, and their labels are the numbers of their items, by induction on the items
pub mod Counting
-- Unions are sound, by induction on the cases and on the labels of each
pub mod Choosing
-- Every declaration keeps what makes a unit sound
pub mod Keeping
-- * The declarations that the grammar gives are whole
pub mod Derived
-- Declarations worked by hand
pub mod Rows
