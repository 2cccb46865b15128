-- The proofs, each after those that it uses; * marks those that the proofs of functions use.

-- * One more interface, by induction on the interfaces before it
pub mod Apart
-- * Numbers of arms and of items, and names that are followed; unions, by induction on the arms; arrays of arrays
pub mod Numbers
-- * What a union and arrays of arrays are seen as
pub mod Seen
-- * A unit is sound where its plain tree is, by induction on the lists of its parts
pub mod Plainly
-- * A list is a full name where it begins with the prefix, and goes on as the own part
pub mod FullNames
