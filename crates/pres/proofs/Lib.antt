-- The proofs, each after those that it uses; * marks those that the proofs of functions use.

-- * A node and its shape unfold to their level over the faces, and faces are of nodes' types, by induction on the nodes
pub mod Facing
-- * A sketch with one more node, and what is at its places, by induction on the nodes
pub mod Drafting
-- * Numbers and arms that are put in their order, by induction on the list
pub mod Ordered
-- * Types that are drawn, part by part, by induction on the members and on the arms
pub mod Drawn
-- * Arrays of arrays that are drawn, the innermost first, by induction on the counts
pub mod Arrayed
-- * Requests and replies that are drawn, by induction on the arms and on the operations
pub mod Exchange
-- * The types of a unit, and then its interfaces, by induction on the types
pub mod Whole
-- * Sizes up to a limit are those of faces, by induction on the fields and on the arms
pub mod Measures
-- Numbers that are put in their order rise, and are the same numbers, by induction on the numbers
pub mod Rises
-- The nodes of enums and arrays are regular, and an array's blank value weighs something
pub mod Regular
-- The nodes that sound types make are regular, and their blank values weigh something, by induction on the type
pub mod Soundly
-- * A sound unit can be drawn, and its nodes are regular, by induction on its types and on its interfaces
pub mod SoundUnit
-- * Nodes that are put into a table, one after another, by induction on the faces and on a node's parts
pub mod Tabling
-- * Which refusal is the first, and what sizes up to a limit say of it, by induction on the faces and operations
pub mod Faulty
-- Sketches that are drawn in definitions: nodes for a type, for a message, for a unit, by induction on the type
pub mod Building
-- * Each sound unit that has no reason against it has a binding
pub mod Existing
-- * Items that are found by their names and by their numbers, by induction on the items
pub mod Tabled
-- * The names of fields, by induction on the fields
pub mod Fielded
-- * The order of names by their keys, by induction on the order
pub mod KeyOrder
-- * Strings that begin with the string of octets, or are it
pub mod Passing
-- * Exceptions that are found by their names, by induction on the exceptions and on the operations
pub mod Found
-- How many operations a binding has, by induction on the interfaces
pub mod Counting
