-- The proofs, each after those that it uses; * marks those that the proofs of functions use.

-- * Sets of names beside the operations that have them, by induction on the operations
pub mod Indexing
-- * The operations of a base beside those of the bases before it, by induction on the base's
pub mod Beside
-- * Elements of lists, by their places, as plain trees, by induction on the list
pub mod Getting
-- A declaration puts types after the others, if any
pub mod Growing
-- The operations of interfaces are sound, by induction on parameters, raises, attribute names and inherited operations
pub mod Offering
-- Every definition keeps what makes a unit sound, by induction on the depth of modules and the definitions
pub mod Keeping
-- The interfaces of a file are not twins in its unit, by induction on the interfaces
pub mod Apart
-- * The interfaces of a file have room in its unit, by induction on the interfaces
pub mod Room
-- * The unit of a file is sound, by induction on its interfaces and on the operations of each
pub mod Whole
-- * The trees that the grammar gives are whole, by induction on the depth of modules and the definitions
pub mod Derived
