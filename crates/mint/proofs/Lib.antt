-- The proofs, each after those that it uses; * marks those that the proofs of functions use.

-- What the entry of a number is asked for, by the number's place, by induction on the entries
pub mod Placing
-- * The arm that is found comes before the node, by induction on the arms
pub mod Arms
-- * A node of a table unfolds to its level over the trees of the table, by induction on the nodes
pub mod Unfolding
-- * What a table keeps of its nodes stays true when a node is put after them, by induction on the nodes
pub mod Measuring
-- * The blank value of a sound type is well typed, by mutual induction on types, fields and arms
pub mod BlankTyped
-- * Blank values, field by field and copy by copy, by induction on the values and on the number of copies
pub mod Blanks
-- * One more field, element or arm, by induction on the list of values
pub mod Fitting
-- * An image gives its numbers back, and numbers their image, by induction on the numbers and on how many they are
pub mod Images
-- Numbers that octets spell: each takes one, and none of them is a Bool
pub mod Octets
-- * How many numbers an image has, and what is where, by induction on how many there are
pub mod Places
-- * Values that are made, as they are seen, by induction on the list of values
pub mod Seen
-- * A number that is found by halving, by induction on the list
pub mod Halving
