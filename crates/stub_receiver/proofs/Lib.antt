-- The proofs, each after those that it uses; * marks those that the proofs of functions use.

-- * Drafts by their variants, and parts that are exchanged, by induction on the list of parts
pub mod Drafting
-- * Drafts that have become values
pub mod Becoming
-- * A number that is put into a part in place, by induction on the list of parts
pub mod Putting
-- A number of a row stays one of the row's numbers, by induction on the code and the depth of calls
pub mod Digits
-- * What is done to a part of a draft: it is taken out, changed and put back, by induction on the path to the part
pub mod Within
-- * Numbers that are put into drafts
pub mod Getting
-- * Structs of numbers whose fields are read in order, by induction on the values that were read
pub mod Flattening
-- * Operations that are run, one after the other
pub mod Running
-- * The numbers of a row as a block
pub mod Blocking
-- * The numbers of a row are those of its image, by induction on how many numbers there are
pub mod Images
-- * Parts of drafts that are looked at
pub mod Looking
-- * What loops over drafts go over
pub mod Over
-- * How many operations are in a code: the measure of a run, by induction on the code
pub mod Sizing
-- * Octets that are passed up to a multiple
pub mod Skipping
