-- The proofs, each after those that it uses; * marks those that the proofs of functions use.

-- Steps that have their room run, and lead to what they write and cost, by induction on the steps
pub mod Rooms
-- * Octets that are put one after the other fill a chunk, by induction on the chunk's cells
pub mod Filling
-- * The octets of a number that fits, by its sign
pub mod Lows
-- Steps after steps, run one after the other, by induction on the first steps
pub mod Folds
-- * What a buffer has spent does not fall, whatever is run, by induction on the steps
pub mod Spending
-- * One operation, element or number more
pub mod Running
-- * What is done only grows, by induction on the steps
pub mod Growing
-- * Parts of a value, and of its tree, by induction on the list of values
pub mod PartLaws
-- * The body of a number, by its place among the cases
pub mod Picks
-- * Rows that are given as a block, by induction on the row's numbers
pub mod Rowing
-- * How many operations are in a code: the measure of a run, by induction on the code
pub mod Sizes
-- * A run as a whole
pub mod Whole
