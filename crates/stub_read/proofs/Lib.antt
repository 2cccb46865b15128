-- The proofs, each after those that it uses; * marks those that the proofs of functions use.

-- * A loop over items reads what `repeat` reads
pub mod Loops
-- The words of a line are read as what they are printed from, by induction on digits and on lists
pub mod Leaves
-- The lines of puts are read as the puts that they are printed from, by induction on the puts
pub mod PutsRead
-- * Where a loop over operations begins, and where one of its turns is refused
pub mod Starting
-- What follows a block is no longer than the block's text with it, by mutual induction on code and cases
pub mod Lines
-- The lines of operations are read as the operations that they are printed from, by mutual induction on code and cases
pub mod OperationsRead
-- What is read nests within the levels that it is read with, by induction on levels and on lists
pub mod Nesting
-- What is read has the numbers of code, by induction on levels and on lists
pub mod Small
-- * A text that begins with the text of a stub is read as its parts, by induction on the codes that calls name
pub mod Whole
