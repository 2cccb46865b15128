-- The proofs, each after those that it uses; * marks those that the proofs of functions use.

-- * Numbers, counts and lengths as they are read
mod Words
-- * Where nothing is aligned there is no gap
mod Gaps
-- The arm that is found among the arms of a choice, by induction on the arms
pub mod Arms
-- * Values as they are read, and of a choice the arm that is found, by induction on the arms
pub mod Reading
-- * Octets read one by one are read as a block, by induction on how many they are
pub mod Blocks
-- * What the descriptors of Mach messages say, as numbers and octets
pub mod Descriptors
-- * What reading gives is exactly what is spelled, or the first fault
pub mod Exact
-- * Octets are appended one after the other
pub mod Steps
-- * The octets of an array, by the sort of its elements, by induction on the elements
pub mod Arrays
-- * The image of a row whose numbers are octets is these octets, by induction on the numbers
pub mod Images
-- * The elements of a row are one gap, and then numbers without gaps, by induction on the numbers and on their number
pub mod RowGaps
-- * The numbers of a row are sent as their image, swapped by pieces in the other order, by induction on the numbers
pub mod RowImages
-- * The numbers of a row are read as their image, or cut at the first that is not there, by induction on their number
pub mod RowWords
-- * One more field, element or arm
pub mod Values
